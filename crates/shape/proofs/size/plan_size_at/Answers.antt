-- `size::plan_size_at` meets its contract: it says yes exactly where the tree obeys the plan rules, and then its round size.
use mathlib.Core.List.{List, []}
use mathlib.Core.Path.{refl, sym, ap₂, ◌∙◌}
use Prim.Native.Nat.{ℕ, ◌≤◌, ◌<◌}
use native.Mathlib.Omega.{arith}
use borrow.Author.Tests.{lt-ltb, eq-eqb}
use Rattle.checks.proofs.Laws.{exactly_yes, exactly_no, not_true_and_false}
use Rattle.units.specs.Unit.{size_of}
use Rattle.tree.specs.declared.Tree.{Tree}
use Rattle.std.specs.Prelude.{None, IfSome}
use Rattle.units.specs.declared.Bytes.{Bytes}
use Rattle.shape.specs.Steps.{Sizes}
use Rattle.tree.specs.Rules.{too_many, no_class, PlanRules}
use Rattle.tree.specs.Size.{round_size}
use Rattle.shape.proofs.Children.{rules_rest, rules_classes, right_rules}
use Rattle.tree.proofs.Rules.{weights_ceiling, longest_ceiling}
use Rattle.shape.specs.Shape.{tree_in, Families}
use Rattle.shape.proofs.size.plan_size_at.Goals as goal
use Rattle.shape.proofs.size.plan_size_at.Goals.{In_ok-walked, then-last-gt-MOST-via-then-last-gt-MOST, then-last-gt-MOST-via-else-last-gt-MOST+then-last-eq0, then-last-gt-MOST-via-else-last-gt-MOST+else-last-eq0+then-not-rest_unset}

-- a tree that breaks them has no size
none : (t : Tree) (children : List ℕ) → (PlanRules t → ⊥) → Sizes t None × IfSome {T = Bytes} None (λ size. Families t children)
none t children broken = (record { right = exactly_no broken; size = tt }, tt)

pub returns-then-last-gt-MOST : goal.returns-then-last-gt-MOST
unfolding too_many no_class
returns-then-last-gt-MOST c =
    let t = tree_in c.args.shape.now in
    none t [] (λ p. elim c.then-last-gt-MOST.branch [
      | then-last-gt-MOST-via-then-last-gt-MOST w ↦
          let many : 63 < t.count = omega (arith, c.count-last.ensures, w.if-last-gt-MOST.true) in
          not_true_and_false (lt-ltb _ _ many) p.few
      | then-last-gt-MOST-via-else-last-gt-MOST+then-last-eq0 w ↦
          not_true_and_false (eq-eqb _ _ (sym c.count-last.ensures ∙ w.if-last-eq0.true)) p.closing.classes
      | then-last-gt-MOST-via-else-last-gt-MOST+else-last-eq0+then-not-rest_unset w ↦
          not_true_and_false (w.rest_unset.ensures.complete (rules_rest _ p)) w.if-not-rest_unset.true
    ])

pub returns-in_err-walked : goal.returns-in_err-walked
returns-in_err-walked c =
    let t = tree_in c.args.shape.now in
    let broken : PlanRules t → ⊥ = λ p. not_true_and_false (c.in_err-walked.ensures.0.complete (rules_classes t p)) refl in
    rw c.from_residual.ensures (none t [] broken)

-- all tests passed
rules : (c : In_ok-walked) → PlanRules (tree_in c.args.shape.now)
rules c =
    let t = tree_in c.args.shape.now in
    let some : 1 ≤ t.count = omega (arith, c.count-last.ensures, c.if-last-eq0.false) in
    let few : t.count ≤ 63 = omega (arith, c.count-last.ensures, c.if-last-gt-MOST.false) in
    let walked = c.in_ok-walked.ensures in
    right_rules t (c.rest_unset.ensures.sound c.if-not-rest_unset.false) (walked.0.sound refl) some few walked.2

pub overflow_cast-weights : goal.overflow_cast-weights
overflow_cast-weights c =
    omega (arith, c.in_ok-walked.ensures.1.0, weights_ceiling _ (rules (goal.at.overflow_cast-weights c).In_ok-walked))

pub size-requires : goal.size-requires
size-requires c =
    let rules = rules (goal.at.size-requires c).In_ok-walked in
    let sums = c.in_ok-walked.ensures.1 in
    omega (arith, sums.0, sums.1, weights_ceiling _ rules, longest_ceiling _ rules)

pub returns : goal.returns
unfolding round_size
returns c =
    let sums = c.in_ok-walked.ensures.1 in (
      record { right = exactly_yes (rules (goal.at.returns c).In_ok-walked); size = c.size.ensures ∙ ap₂ size_of sums.0 sums.1 },
      sums.2,
    )

-- `right::asked_right` meets its contract.
use mathlib.Core.Path.{◌≡◌, refl, sym, ap, subst, ◌∙◌}
use Prim.Native.Nat.{ℕ, ◌+◌, ◌<◌}
use native.Mathlib.Decide.{ℕ_discrete}
use Rattle.checks.specs.Check.{Exactly}
use Rattle.checks.proofs.Laws.{exactly_yes, exactly_no, not_true_and_false}
use Rattle.sets.specs.Set.{has}
use Rattle.tree.specs.declared.Tree.{Tree}
use Rattle.tree.specs.Rules.{PlanRules}
use Rattle.tree.proofs.Rules.{few_classes}
use Rattle.rules.specs.Active.{weight_sums}
use Rattle.rules.proofs.Shares.{parent_most}
use Rattle.published.specs.Asking.{Published}
use Rattle.asking.proofs.Flagged.{flags_say, flags_of}
use native.Mathlib.Omega.{arith}
use Rattle.published.specs.Second.{means}
use Rattle.asking.specs.Right.{ClassAsked}
use Rattle.asking.proofs.right.asked_right.Goals as goal
use Rattle.asking.proofs.right.asked_right.Goals.{After-flags_right}

-- the class at hand
abbrev number : After-flags_right → ℕ
number f = f.loop-i.i

here : (f : After-flags_right) → number f < 64
here f = omega (arith, f.loop-i-test.true)

-- the record
abbrev made : After-flags_right → Published
made f =
    means f.args.second

-- what was read is what the clauses speak of
decided : (f : After-flags_right) → Exactly f.flags_right.result (ClassAsked (made f) (number f))
decided f =
    flags_say (made f) (number f) _ f.flags_right.result
    (flags_of (made f) (number f) f.yet_to_ask.result f.weight_sums-owed.result _
    (few_classes f.args.second.link.tree f.requires) (here f) f.yet_to_ask.ensures
    (f.weight_sums-owed.ensures ∙ ap (λ (k : Tree). weight_sums k f.yet_to_ask.result) f.shape_of-shape.ensures)
    f.is_class.ensures
    f.has.ensures f.has-in-loop-i.ensures f.has-in-loop-i-2.ensures
    (f.has-in-loop-i-3.ensures ∙ ap (has f.args.second.asked) f.from-p.ensures) refl f.can_pay.ensures)
    f.flags_right.ensures

pub weight_sums-owed-requires : goal.weight_sums-owed-requires
weight_sums-owed-requires c =
    subst PlanRules (sym c.shape_of-shape.ensures) c.requires

pub loop-i-init : goal.loop-i-init
loop-i-init c = λ k u. absurd (omega arith)

pub has-requires-in-loop-i-3 : goal.has-requires-in-loop-i-3
has-requires-in-loop-i-3 c =
    omega (
      arith,
      c.from-p.ensures,
      parent_most c.args.second.link.tree c.loop-i.i c.requires (omega
          (arith, c.loop-i-test.true)),
      c.loop-i-test.true,
    )

pub returns-then-not-flags_right : goal.returns-then-not-flags_right
returns-then-not-flags_right c =
    exactly_no
    (λ p. not_true_and_false ((decided (goal.at.returns-then-not-flags_right c).After-flags_right).complete (p.at c.loop-i.i (omega (arith, here (goal.at.returns-then-not-flags_right c).After-flags_right)))) c.if-not-flags_right.true)

pub loop-i-preserved : goal.loop-i-preserved
loop-i-preserved c =
    λ k u. more k u (ℕ_discrete k (number (goal.at.loop-i-preserved c).After-flags_right))
  where
    more : (k : ℕ) → k < number (goal.at.loop-i-preserved c).After-flags_right + 1 → Dec (k ≡ number (goal.at.loop-i-preserved c).After-flags_right) → ClassAsked (made (goal.at.loop-i-preserved c).After-flags_right) k
    more k u (yes e) = subst (ClassAsked (made (goal.at.loop-i-preserved c).After-flags_right)) (sym e) ((decided (goal.at.loop-i-preserved c).After-flags_right).sound c.if-not-flags_right.false)
    more k u (no ne) =
        c.loop-i.invariant k
        (omega arith)

pub returns : goal.returns
returns c =
    exactly_yes (record { at = λ k u. c.loop-i.invariant k (omega arith) })

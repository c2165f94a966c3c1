-- `mend::child_fault` meets its contract: class by class upward number 8.
use mathlib.Core.Path.{◌≡◌, sym, ap₂, ◌∙◌}
use mathlib.Core.Bool.{Bool, ◌&&◌, not}
use Prim.Native.Nat.{ℕ}
use native.Mathlib.Omega.{arith}
use Rattle.std.specs.Prelude.{Ok}
use Rattle.checks.specs.Check.{first_broken}
use Rattle.checks.proofs.Laws.{classes_passed, classes_refused, upward_more, pass_over, decides, none_broken}
use Rattle.tree.specs.Class.{is_leaf, is_inner}
use Rattle.tree.specs.Rules.{childless}
use Rattle.tree.proofs.Classes.{class_in_lem}
use Rattle.mended.specs.Answer.{child_checks}
use Rattle.mended.proofs.child_fault.Goals as goal
use Rattle.mended.proofs.child_fault.Goals.{After-is_childless}

-- what the class at hand says
said : (c : After-is_childless)
    → c.is_childless.result ≡ childless c.args.tree
    c.loop-i.i
unfolding childless is_inner is_leaf
said c =
    c.is_childless.ensures
    ∙ rw (class_in_lem c.args.tree c.loop-i.i c.loop-i.invariant.0 (omega arith))
    (ap₂ (λ (a b : Bool). not a && not b) c.has-leaf.ensures c.has_child-child.ensures)

pub returns-then-is_childless : goal.returns-then-is_childless
returns-then-is_childless c =
    let t = c.args.tree in
    sym (classes_refused (child_checks t) t.count c.loop-i.i c.loop-i.invariant.0 (omega arith) c.loop-i.invariant.2
    (decides _ _ (sym (said (goal.at.returns-then-is_childless c).After-is_childless) ∙ c.if-is_childless.true)))

pub loop-i-preserved : goal.loop-i-preserved
loop-i-preserved c =
    let t = c.args.tree in (
      omega arith,
      omega arith,
      upward_more (λ (k : ℕ). first_broken (child_checks t k) ≡ Ok tt) c.loop-i.i c.loop-i.invariant.2
          (pass_over _ _ (sym (said (goal.at.loop-i-preserved c).After-is_childless) ∙ c.if-is_childless.false) ∙ none_broken),
    )

pub returns-else-is_childless : goal.returns-else-is_childless
returns-else-is_childless c =
    let t = c.args.tree in
    let passed = upward_more (λ (k : ℕ). first_broken (child_checks t k) ≡ Ok tt) c.loop-i.i c.loop-i.invariant.2
    (pass_over _ _ (sym (said (goal.at.returns-else-is_childless c).After-is_childless) ∙ c.if-is_childless.false) ∙ none_broken) in
    sym (classes_passed (child_checks t) t.count (λ k l u. passed k l (omega arith)))

pub returns : goal.returns
returns c =
    let t = c.args.tree in
    sym (classes_passed (child_checks t) t.count (λ k l u. c.loop-i.invariant.2 k l (omega arith)))

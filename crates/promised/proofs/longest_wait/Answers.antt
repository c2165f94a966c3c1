-- `promised::longest_wait` meets its contract: 11, then 12, then 14, else the bound.
use mathlib.Core.Bool.{true, false, not}
use mathlib.Core.Path.{◌≡◌, refl, sym, ap, ◌∙◌}
use Prim.Native.Nat.{ℕ, ◌*◌}
use native.Mathlib.Omega.{arith}
use borrow.Author.Tests.{lt-ltb, le-ltb}
use Rattle.checks.specs.declared.Refusal.TheVariants.{NotSound, NoLeaf, Full}
use Rattle.checks.specs.Check.{refusal_at}
use Rattle.std.specs.Prelude.{Ok, Err}
use Rattle.checks.proofs.Laws.{decides, pass_over, none_broken}
use Rattle.units.specs.Cost.{cost_of}
use Rattle.tree.specs.Class.{is_leaf}
use Rattle.promised.specs.Promise.{most_held}
use Rattle.promised.proofs.Kept.{promise_of}
use Rattle.promised.proofs.longest_wait.Goals as goal
use Rattle.promised.proofs.longest_wait.Goals.{After-full_of}

-- what the leaf's places can hold
most : (c : After-full_of)
    → let a = c.args in
    c.full_of.result.0 ≡ most_held a.tree a.class
most c = c.full_of.ensures ∙ ap (λ (n : ℕ). 32 * cost_of n) c.longest.ensures

pub returns-in_default : goal.returns-in_default
returns-in_default c =
    let a = c.args in
    promise_of a.tree a.class a.d.0 false (Err (refusal_at NotSound 0)) _ c.in_default.ensures.right (decides _ _ refl)
    c.refuse.ensures

pub returns-then-not-holds : goal.returns-then-not-holds
unfolding is_leaf
returns-then-not-holds c =
    let a = c.args in
    promise_of a.tree a.class a.d.0 true (Err (refusal_at NoLeaf a.class)) _ c.in-Some.ensures.right
    (pass_over _ _ refl ∙ decides _ _ (ap not (sym c.holds.ensures.0) ∙ (ap not c.if-not-holds.true)))
    c.refuse-then-not-holds.ensures

pub returns-then-full_of-d : goal.returns-then-full_of-d
unfolding is_leaf
returns-then-full_of-d c =
    let a = c.args in
    promise_of a.tree a.class a.d.0 true (Err (refusal_at Full a.class)) _ c.in-Some.ensures.right
    (pass_over _ _ refl
    ∙ pass_over _ _ (ap not (sym c.holds.ensures.0) ∙ (ap not c.if-not-holds.false))
    ∙ decides _ _ (lt-ltb (most_held a.tree a.class) a.d.0 (omega (arith, c.if-full_of-d.true, most (goal.at.returns-then-full_of-d c).After-full_of))))
    c.refuse-then-full_of-d.ensures

pub bounded-requires : goal.bounded-requires
unfolding is_leaf
bounded-requires c =
    let e = c.in-Some.ensures in
    let holds = c.if-not-holds.false in (
      e.right.sound refl,
      sym c.holds.ensures.0 ∙ holds,
      omega (arith, c.if-full_of-d.false, most (goal.at.bounded-requires c).After-full_of),
      e.size,
      c.holds.ensures.1 holds,
    )

pub returns : goal.returns
unfolding is_leaf
returns c =
    let a = c.args in
    promise_of a.tree a.class a.d.0 true (Ok tt) _ c.in-Some.ensures.right
    (pass_over _ _ refl
    ∙ pass_over _ _ (ap not (sym c.holds.ensures.0) ∙ (ap not c.if-not-holds.false))
    ∙ pass_over _ _ (le-ltb (most_held a.tree a.class) a.d.0 (omega (arith, c.if-full_of-d.false, most (goal.at.returns c).After-full_of)))
    ∙ none_broken)
    c.bounded.ensures

-- `after_end::parents` meets its contract.
use mathlib.Core.Bool.{Bool, ◌||◌}
use mathlib.Core.Path.{◌≡◌, sym, ap, ◌∙◌}
use Prim.Native.Nat.{ℕ, ◌+◌, ◌-◌, ◌≤◌, ◌<◌}
use native.Mathlib.Omega.{arith}
use lib.Dec.{eqb}
use Rattle.sets.specs.Set.{has}
use Rattle.sets.proofs.Laws.{has_empty}
use Rattle.tree.specs.declared.Tree.{Tree}
use Rattle.tree.specs.Class.{parent_of, is_child, has_child}
use Rattle.tree.specs.Sum.{some_to}
use Rattle.tree.proofs.Sums.{some_none, some_step}
use Rattle.tree.proofs.after_end.parents.Goals as goal

-- the set of the classes below class i that have a child, and with the parent of class i in it
one_more : (t : Tree) (i set more : ℕ) → 1 ≤ i → ((p : ℕ) → p < 64 → has set p ≡ some_to (is_child t p) (i - 1))
    → ((p : ℕ) → p < 64 → has more p ≡ (has set p || eqb (parent_of t i) p))
    → (p : ℕ) → p < 64 → has more p ≡ some_to (is_child t p) (i + 1 - 1)
unfolding is_child
one_more t i set more low below with p u =
    with p u ∙ ap (λ (b : Bool). b || is_child t p i) (below p u) ∙ sym (some_step (is_child t p) i low)

pub loop-child-init : goal.loop-child-init
loop-child-init c = (omega arith, omega arith, λ p u. has_empty p ∙ sym (some_none (is_child c.args.tree p)))

pub loop-child-preserved : goal.loop-child-preserved
loop-child-preserved c = (
  omega arith,
  omega arith,
  one_more _ _ _ _ c.loop-child.invariant.0 c.loop-child.invariant.2 c.with_parent-parents.ensures,
)

pub returns : goal.returns
unfolding has_child
returns c = λ p u.
    let e : c.loop-child.child - 1 ≡ c.args.tree.count = omega arith in
    rw e at (c.loop-child.invariant.2 p u)

-- after the last class's turn
pub returns-2 : goal.returns-2
unfolding has_child
returns-2 c = λ p u.
    let e : c.loop-child.child + 1 - 1 ≡ c.args.tree.count = omega arith in
    rw e at (one_more _ _ _ _ c.loop-child.invariant.0 c.loop-child.invariant.2 c.with_parent-parents.ensures p u)

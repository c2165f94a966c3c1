-- The sizes that may be in force: rule 2's is at most rule 1's, and each rule's is between the two. Demands 2 and 3.
use mathlib.Core.Bool.{Bool, true, false, cond}
use mathlib.Core.Path.{refl}
use Prim.Native.Nat.{ℕ, ◌≤◌, zero-le}
use native.Mathlib.Omega.{arith}
use Rattle.sets.specs.Set.{has}
use Rattle.tree.specs.declared.Tree.{Tree}
use Rattle.tree.specs.Class.{weight_of}
use Rattle.tree.specs.Size.{all_weights, all_longest, longest_cost, round_size, SizeRight}
use Rattle.tree.specs.Sum.{sum_to}
use Rattle.tree.proofs.Sums.{sum_within}
use Rattle.rules.specs.Sizes.{if_active, active_weights, active_longest, active_size, main_size}

-- the active ones count for at most what all do
pub active_part : (active : ℕ) (f : ℕ → ℕ) (n : ℕ) → sum_to (if_active active f) n ≤ sum_to f n
unfolding if_active
active_part active f n = sum_within _ f n (λ i l u. go (has active i) (f i))
  where
    go : (b : Bool) (x : ℕ) → cond b x 0 ≤ x
    go true x = omega arith
    go false x = zero-le

-- rule 2's size is at most rule 1's
pub active_most : (t : Tree) (active : ℕ) → active_size t active ≤ round_size t
unfolding active_size active_weights active_longest round_size all_weights all_longest
active_most t active = omega (arith, active_part active (weight_of t) t.count, active_part active (longest_cost t) t.count)

-- the size of a main round is at least rule 2's
pub main_low : (t : Tree) (active : ℕ) → active_size t active ≤ main_size t active
unfolding main_size
main_low t active = go t.follows
  where
    go : (b : Bool) → active_size t active ≤ cond b (active_size t active) (round_size t)
    go true = omega arith
    go false = active_most t active

-- and may be in force
pub main_right : (t : Tree) (active : ℕ) → SizeRight t (main_size t active)
unfolding main_size
main_right t active = record { most = most t.follows; whole = λ e. rw e refl }
  where
    most : (b : Bool) → cond b (active_size t active) (round_size t) ≤ round_size t
    most true = active_most t active
    most false = omega arith

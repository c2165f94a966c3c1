-- `size::rest_unset` meets its contract.
use Prim.Native.Nat.{ℕ, ◌≤◌, ◌<◌}
use Rattle.shape.specs.Steps.{NumberUnset}
use Rattle.shape.specs.Shape.{tree_in}
use Rattle.shape.proofs.size.rest_unset.Given as goal

abbrev pub invariant-loop-i : goal.invariant-loop-i
invariant-loop-i l =
    ((tree_in l.shape).count < l.i) × (l.i ≤ 64) × ((k : ℕ) → k < l.i → (tree_in l.shape).count < k → NumberUnset (tree_in l.shape) k)

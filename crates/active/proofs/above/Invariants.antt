-- `active::above` meets its contract.
use Prim.Native.Nat.{◌≤◌}
use Rattle.sets.specs.Set.{has}
use Rattle.shape.specs.Shape.{tree_in}
use Rattle.rules.proofs.Waiting.{Marks}
use Rattle.active.proofs.above.Given as goal

abbrev pub invariant-loop-i : goal.invariant-loop-i
invariant-loop-i l = (l.i ≤ (tree_in l.shape).count) × Marks (tree_in l.shape) (has l.waiting) l.active l.i

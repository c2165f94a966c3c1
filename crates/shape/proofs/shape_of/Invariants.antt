-- `shape::shape_of` meets its contract.
use Prim.Native.Nat.{◌≤◌}
use Rattle.shape.proofs.Read.{Laid}
use Rattle.shape.proofs.shape_of.Given as goal

abbrev pub invariant-loop-i : goal.invariant-loop-i
invariant-loop-i l = (l.i ≤ 64) × Laid l.tree l.i l.out

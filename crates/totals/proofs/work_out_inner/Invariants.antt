-- `totals::work_out_inner` meets its contract: class by class downward.
use Prim.Native.Nat.{◌≤◌}
use Rattle.shape.specs.Shape.{tree_in}
use Rattle.totals.proofs.Passing.{Passed}
use Rattle.totals.proofs.work_out_inner.Given as goal

abbrev pub invariant-loop-i : goal.invariant-loop-i
invariant-loop-i l =
    (l.i ≤ (tree_in l.shape).count) × Passed (tree_in l.shape) l.initial.packets l.i l.packets × Passed (tree_in l.shape) l.initial.bytes l.i l.bytes

-- `shape::families` meets its contract.
use Prim.Native.Nat.{◌+◌, ◌≤◌}
use Rattle.shape.specs.Shape.{tree_in}
use Rattle.shape.proofs.Kin.{FamiliesTo}
use Rattle.shape.proofs.families.Given as goal

abbrev pub invariant-loop-i : goal.invariant-loop-i
invariant-loop-i l =
    (1 ≤ l.i) × (l.i ≤ (tree_in l.shape).count + 1) × FamiliesTo (tree_in l.shape) l.i l.out

-- `active::weight_sums` meets its contract: class by class downward, each adds itself to its parent's sum.
use mathlib.Core.Path.{◌≡◌}
use Prim.Native.Nat.{◌≤◌}
use Rattle.tree.specs.Sum.{table}
use Rattle.shape.specs.Shape.{tree_in}
use Rattle.rules.proofs.Sums.{sum_above}
use Rattle.active.proofs.weight_sums.Given as goal

abbrev pub invariant-loop-i : goal.invariant-loop-i
invariant-loop-i l = (l.i ≤ (tree_in l.shape).count) × (l.sums ≡ table (sum_above (tree_in l.shape) l.active l.i) 64)

-- `after_end::children_weights` meets its contract: class by class downward, each adds itself to its parent's sum.
use Prim.Native.Nat.{◌≤◌}
use Rattle.tree.specs.Class.{weight_of, of_child}
use Rattle.tree.proofs.Down.{SumsAbove}
use Rattle.tree.proofs.after_end.children_weights.Given as goal

abbrev pub invariant-loop-i : goal.invariant-loop-i
invariant-loop-i l = (l.i ≤ l.tree.count) × SumsAbove l.tree.count 256 (of_child l.tree (weight_of l.tree)) l.sums l.i

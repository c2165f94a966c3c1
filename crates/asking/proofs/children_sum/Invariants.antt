-- `children_sum` meets its contract.
use mathlib.Core.Path.{◌≡◌}
use Prim.Native.Nat.{◌-◌, ◌*◌, ◌≤◌}
use Rattle.tree.specs.Sum.{sum_to}
use Rattle.shape.specs.Shape.{tree_in}
use Rattle.asking.proofs.Laws.{adds_to}
use Rattle.asking.proofs.children_sum.Given as goal

abbrev pub invariant-loop-i : goal.invariant-loop-i
invariant-loop-i l =
    let t = tree_in l.shape in
    (l.sum.0 ≤ (l.i - 1) * 1_000_000) × (l.sum.0 ≡ sum_to (adds_to t l.active l.p) (l.i - 1))

-- `allot::children_get` meets its contract.
use mathlib.Core.Path.{◌≡◌}
use Prim.Native.Nat.{◌+◌, ◌-◌, ◌≤◌}
use Rattle.tree.specs.Sum.{sum_to}
use Rattle.tree.specs.Class.{of_child}
use Rattle.allot.specs.Request.{entry}
use Rattle.allot.specs.Share.{share_at}
use Rattle.allot.proofs.children_get.Given as goal

abbrev pub invariant-loop-i : goal.invariant-loop-i
invariant-loop-i l =
    (l.tree.count ≤ 63) × (1 ≤ l.i) × (l.i ≤ l.tree.count + 1) × (l.sum ≡ sum_to (of_child l.tree (share_at l.tree (entry l.requests) l.f) l.p) (l.i - 1))

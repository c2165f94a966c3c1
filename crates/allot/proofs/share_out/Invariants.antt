-- `allot::share_out` meets its contract: the root, then class by class upward.
use Prim.Native.Nat.{◌+◌, ◌-◌, ◌≤◌}
use Rattle.allot.specs.Request.{entry}
use Rattle.allot.specs.Steps.{Settled}
use Rattle.allot.proofs.share_out.Given as goal

abbrev pub invariant-loop-i : goal.invariant-loop-i
invariant-loop-i l =
    (l.tree.count ≤ 63) × (1 ≤ l.i) × (l.i ≤ l.tree.count + 1) × Settled l.tree (entry l.requests) l.has (l.i - 1) l.shares

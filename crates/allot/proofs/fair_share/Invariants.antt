-- `allot::fair_share` meets its contract: the lower number fits, the higher does not, and both come together.
use Prim.Native.Nat.{◌+◌, ◌-◌, ◌≤◌, ◌<◌}
use Rattle.allot.specs.Request.{entry}
use Rattle.allot.specs.Share.{Fits}
use Rattle.allot.proofs.fair_share.Given as goal

abbrev pub invariant-loop-low : goal.invariant-loop-low
invariant-loop-low l =
    (l.low < l.high) × (l.high ≤ l.has + 1) × Fits l.tree (entry l.requests) l.p l.has l.low × (Fits l.tree (entry l.requests) l.p l.has l.high → ⊥)

abbrev pub decreases-loop-low : goal.decreases-loop-low
decreases-loop-low l = l.high - l.low

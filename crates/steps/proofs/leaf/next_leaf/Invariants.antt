-- `leaf::next_leaf` meets its contract.
use mathlib.Core.Path.{◌≡◌}
use Prim.Native.Nat.{◌-◌, ◌≤◌}
use Rattle.state.specs.declared.Link.{Link}
use Rattle.state.specs.State.{meaning}
use Rattle.rules.specs.Sending.{ready, first_from, next_leaf}
use Rattle.steps.specs.Fields.{Searched}
use Rattle.steps.proofs.leaf.next_leaf.Given as goal

abbrev pub invariant-loop-leaves : goal.invariant-loop-leaves
invariant-loop-leaves l =
    (l.at ≤ 64) × ((link : Link) → Searched link l.leaves l.place l.balance l.start l.lengths
    → next_leaf (meaning link) ≡ first_from (ready (meaning link)) (64 - l.at) l.at)

abbrev pub decreases-loop-leaves : goal.decreases-loop-leaves
decreases-loop-leaves l = 64 - l.at

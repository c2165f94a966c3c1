-- `rounds::open_until_sent` meets its contract.
use Prim.Native.Nat.{◌-◌}
use Rattle.published.specs.Asking.{Published}
use Rattle.published_send.specs.Under.{Under}
use Rattle.published_send.proofs.rounds.open_until_sent.Given as goal

abbrev pub invariant-loop-in_force : goal.invariant-loop-in_force
invariant-loop-in_force l =
    (x₀ : Published) → Under x₀ l.initial.in_force.0 l.active 0 l.shape l.initial.balance l.initial.residual l.initial.quotas l.start l.lengths
    → Under x₀ l.in_force.0 l.active l.rounds l.shape l.balance l.residual l.quotas l.start l.lengths

abbrev pub decreases-loop-in_force : goal.decreases-loop-in_force
decreases-loop-in_force l =
    3 - l.rounds

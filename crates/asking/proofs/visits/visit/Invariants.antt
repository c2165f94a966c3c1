-- The loop of `visits.visit`.
use Prim.Native.Nat.{◌-◌, ◌≤◌}
use Rattle.published.specs.Asking.{Published}
use Rattle.published.specs.Sound.{SoundPublished, WidePublished}
use Rattle.asking.specs.Lent.{Lent}
use Rattle.asking.specs.Coming.{Lying, Reached}
use Rattle.asking.proofs.visits.visit.Given as goal

abbrev pub invariant-loop-leaves : goal.invariant-loop-leaves
invariant-loop-leaves l =
    (1 ≤ l.at) × (l.at ≤ 64)
    × ((x : Published) → Lent x l.active l.asked-2 l.shape l.initial.balance l.initial.residual l.initial.quotas → Lying x l.leaves l.start l.lengths
    → SoundPublished x → WidePublished x
    → Reached x l.place l.at l.leaves l.active l.asked l.shape l.balance l.residual l.quotas l.start l.lengths)

abbrev pub decreases-loop-leaves : goal.decreases-loop-leaves
decreases-loop-leaves l =
    64 - l.at

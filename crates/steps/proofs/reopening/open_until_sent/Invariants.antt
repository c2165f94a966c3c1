-- `reopening::open_until_sent` meets its contract: a leaf is found after at most two rounds.
use Prim.Native.Nat.{◌-◌}
use Rattle.shape.specs.Shape.{tree_in}
use Rattle.steps.specs.Rounds.{Unseen, Opens, closed_link}
use Rattle.steps.proofs.Rounding.{UnderWay}
use Rattle.steps.proofs.reopening.open_until_sent.Given as goal

abbrev pub invariant-loop-in_force : goal.invariant-loop-in_force
invariant-loop-in_force l =
    let t = tree_in l.shape in
    (k : Unseen) → Opens t l.initial.in_force k l.active l.initial.balance l.initial.residual l.start l.lengths
    → UnderWay (closed_link t l.initial.in_force k l.initial.balance l.initial.residual l.start l.lengths) t l.in_force k l.active l.balance l.residual l.start l.lengths l.rounds

abbrev pub decreases-loop-in_force : goal.decreases-loop-in_force
decreases-loop-in_force l = 3 - l.rounds

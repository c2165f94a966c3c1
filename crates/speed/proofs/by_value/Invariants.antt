-- `speed::by_value` meets its contract: what is left from here is what was to do from the start.
use Rattle.speed.specs.Timed.{calls_left}
use Rattle.speed.proofs.Served.{Served}
use Rattle.speed.proofs.by_value.Given as goal

abbrev pub invariant-loop-event : goal.invariant-loop-event
invariant-loop-event l = Served l.input l.initial.link l.initial.event l.link l.event l.tally

abbrev pub decreases-loop-event : goal.decreases-loop-event
decreases-loop-event l = calls_left l.event

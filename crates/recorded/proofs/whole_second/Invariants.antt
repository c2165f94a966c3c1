-- `recorded::whole_second` ends: each event moves on through the input.
use Rattle.run.proofs.Lines.{steps_left}
use Rattle.recorded.proofs.whole_second.Given as goal

abbrev pub decreases-loop-step : goal.decreases-loop-step
decreases-loop-step l = steps_left l.input l.step.more l.step.place

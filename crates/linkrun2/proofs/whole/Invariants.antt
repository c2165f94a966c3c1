-- `linkrun2::whole` ends: each event moves on through the input.
use Rattle.run.proofs.Lines.{steps_left}
use Rattle.linkrun2.proofs.whole.Given as goal

abbrev pub decreases-loop-step : goal.decreases-loop-step
decreases-loop-step g l = steps_left l.input l.step.more l.step.place

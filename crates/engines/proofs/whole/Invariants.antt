-- `engines::whole` ends: each event moves on through the input.
use Rattle.run.proofs.Lines.{steps_left}
use Rattle.engines.proofs.whole.Given as goal

abbrev pub decreases-loop-one : goal.decreases-loop-one
decreases-loop-one g l = steps_left l.input l.one.more l.one.place

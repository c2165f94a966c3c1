-- `by_parts::each_part` ends: each part moves on through the input.
use Rattle.run.proofs.Lines.{steps_left}
use Rattle.by_parts.proofs.each_part.Given as goal

abbrev pub invariant-loop-at : goal.invariant-loop-at
invariant-loop-at g l = goal.W-IsAlwaysCallable g l.take

abbrev pub decreases-loop-at : goal.decreases-loop-at
decreases-loop-at g l = steps_left l.input l.at.more l.at.place

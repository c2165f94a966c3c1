-- The loop of `lent_parts::serve`: the part is underway at the turn, and with each turn less is left to read.
use Rattle.std.proofs.Common.{true}
use Rattle.run.proofs.Lines.{steps_left}
use Rattle.lent_parts.proofs.Turning.{Serving}
use Rattle.lent_parts.proofs.serve.Given as goal

abbrev pub invariant-loop-turn : goal.invariant-loop-turn
invariant-loop-turn l = Serving l.fn.first l.input l.fn.start.place l.fn.out l.link l.turn l.out

abbrev pub decreases-loop-turn : goal.decreases-loop-turn
decreases-loop-turn l = steps_left l.input true l.turn.place

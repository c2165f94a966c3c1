-- `linkstream::in_window` ends: each part moves on through the window and stays within it.
use Rattle.std.proofs.Common.{length, ◌≤◌}
use Rattle.run.proofs.Lines.{steps_left}
use Rattle.linkstream.proofs.in_window.Given as goal

abbrev pub invariant-loop-part : goal.invariant-loop-part
invariant-loop-part g l = l.part.place ≤ length l.window

abbrev pub decreases-loop-part : goal.decreases-loop-part
decreases-loop-part g l = steps_left l.window l.part.more l.part.place

-- `desk::run_on` meets its contract: each part moves on through the input, and the run ends as it would have from its start.
use mathlib.Core.Path.{◌≡◌}
use lib.ListN.{length}
use Rattle.sound.specs.Sound.{SoundLink}
use Rattle.run.proofs.Lines.{steps_left}
use Rattle.desk.proofs.Endings.{end_from, ended}
use Rattle.desk.proofs.run_on.Given as goal

abbrev pub invariant-loop-part : goal.invariant-loop-part
invariant-loop-part l =
    (length l.text ≡ 65_536) × SoundLink l.part.link
    × (ended l.input l.part.more l.part.link l.part.place ≡ end_from l.input l.initial.part.link l.initial.part.place)

abbrev pub decreases-loop-part : goal.decreases-loop-part
decreases-loop-part l = steps_left l.input l.part.more l.part.place

-- `parts_speed::speed_run` meets its contract: what the parts lay from the start is what is left to lay from here.
use Rattle.std.proofs.Common.{◌≡◌, ◌-◌, true, length}
use Rattle.sound.specs.Sound.{SoundLink}
use Rattle.parts_speed.specs.Laid.{laid_on}
use Rattle.parts_speed.proofs.Steps.{laid_by}
use Rattle.parts_speed.proofs.speed_run.Given as goal

abbrev pub invariant-loop-n : goal.invariant-loop-n
invariant-loop-n l =
    (length l.out ≡ length l.initial.out) × (l.part.more ≡ true → SoundLink l.part.link)
    × (laid_on l.parts l.input l.initial.part (laid_by 0 l.initial.out) ≡ laid_on (l.parts - l._n) l.input l.part (laid_by l.bytes l.out))

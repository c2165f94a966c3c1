-- `speed::opening::backlogged` meets its contract.
use Rattle.std.proofs.Common.{◌≡◌, ◌-◌}
use Rattle.sound.specs.Sound.{SoundLink}
use Rattle.speed.specs.Openings.{offered_to}
use Rattle.speed.proofs.opening_times.backlogged.Given as goal

abbrev pub invariant-loop-i : goal.invariant-loop-i
invariant-loop-i l = SoundLink l.link × (l.link ≡ offered_to (l.i - 1) l.initial.link)

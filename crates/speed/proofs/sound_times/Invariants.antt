-- `speed::sound_times` meets its contract: the link with other tags is as sound as the first.
use Rattle.std.proofs.Common.{◌≡◌, ◌≤◌, Bool, cond}
use Rattle.checks.specs.Check.{Exactly}
use Rattle.sound.specs.Sound.{SoundLink}
use Rattle.speed.proofs.sound_times.Given as goal

abbrev pub invariant-loop-n : goal.invariant-loop-n
invariant-loop-n l =
    (l.found ≤ l.n) × ((b : Bool) → Exactly b (SoundLink l.link) → Exactly b (SoundLink l.initial.link))
    × ((s : Bool) → Exactly s (SoundLink l.initial.link) → l.found ≡ cond s l.n 0)

-- Any values of the tags, of the marks and of the running total are sound: the decision reads none of them (R313). Demand 1.
use Rattle.std.proofs.Common.{ℕ, List}
use Rattle.state.specs.declared.Link.{Link}
use Rattle.state.specs.Mark.{charged_to}
use Rattle.state.specs.Queue.{queued, with_totals}
use Rattle.sound.specs.Sound.{SoundLink}
use Rattle.sound.specs.Steps.{view_of}
use Rattle.sound.proofs.Views.{right_to_sound, sound_to_right}

-- the link with other tags, other marks and another running total
abbrev pub marks_as : Link → List ℕ → List ℕ → ℕ → Link
marks_as l tags marks charged = with_totals (queued l l.start l.held l.lengths tags marks) (charged_to l.totals charged)

pub any_marks_sound : (l : Link) (tags marks : List ℕ) (charged : ℕ) → SoundLink l → SoundLink (marks_as l tags marks charged)
unfolding view_of
any_marks_sound l tags marks charged sound =
    let rules = sound.state.fits.tree in
    let right = sound_to_right l rules sound in
    right_to_sound (marks_as l tags marks charged) rules sound.state.fits.size
    (record { low = sound.state.place.low; high = sound.state.place.high }) sound.state.past.word
    (record { at = right.at; adds = right.adds })

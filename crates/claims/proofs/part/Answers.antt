-- `claims::part` meets its contract.
use mathlib.Core.Bool.{Bool}
use mathlib.Core.Path.{◌≡◌, refl, sym, subst, ◌∙◌}
use native.Mathlib.Omega.{arith}
use lib.ListN.{length}
use Rattle.checks.specs.Check.{Exactly}
use Rattle.sound.specs.Sound.{SoundLink}
use Rattle.claims.proofs.Whole.{fits_room, part_unsound, part_fits, part_stays}
use Rattle.claims.proofs.part.Goals as goal
use Rattle.claims.proofs.part.Goals.{After-is_sound}

decided : (s : After-is_sound) {b : Bool} → s.is_sound.result ≡ b → Exactly b (SoundLink s.args.link)
decided s e = subst (λ (b : Bool). Exactly b (SoundLink s.args.link)) e s.is_sound.ensures

pub returns-then-not-is_sound : goal.returns-then-not-is_sound
returns-then-not-is_sound c =
    let a = c.args in
    part_unsound a.last a.link a.place a.claims a.bytes.now c.decides.result (decided (goal.at.returns-then-not-is_sound c).After-is_sound c.if-not-is_sound.true)
    c.decides.ensures

pub returns-then-not-fits : goal.returns-then-not-fits
returns-then-not-fits c =
    let a = c.args in
    part_stays a.last a.link a.place a.claims a.bytes.now c.goes_on.result (decided (goal.at.returns-then-not-fits c).After-is_sound c.if-not-is_sound.false)
    (sym c.fits.ensures ∙ c.if-not-fits.true) c.goes_on.ensures

pub entries-requires : goal.entries-requires
entries-requires c =
    let room = fits_room c.args.place c.args.claims (length c.args.bytes.now)
    (sym c.fits.ensures ∙ c.if-not-fits.false) (omega (arith, c.ranges.place.fits)) (omega (arith, c.ranges.claims.fits)) in
    ((decided (goal.at.entries-requires c).After-is_sound c.if-not-is_sound.false).sound refl, room.0, room.1)

pub returns : goal.returns
returns c =
    let a = c.args in
    part_fits a.last a.link a.place a.claims a.bytes.now c.entries.result (decided (goal.at.returns c).After-is_sound c.if-not-is_sound.false)
    (sym c.fits.ensures ∙ c.if-not-fits.false) c.entries.ensures

-- `claims::fits` meets its contract.
use mathlib.Core.Path.{refl}
use borrow.Author.Tests.{le-leb, lt-leb}
use Rattle.claims.specs.Parts.{fits}
use Rattle.claims.proofs.fits.Goals as goal

pub returns-then-n-place : goal.returns-then-n-place
unfolding fits
returns-then-n-place c = rw (le-leb _ _ c.if-n-place.true) refl

pub returns-else-n-place : goal.returns-else-n-place
unfolding fits
returns-else-n-place c = rw (lt-leb _ _ c.if-n-place.false) refl

-- `in_place::takes_one` meets its contract.
use mathlib.Core.Path.{refl}
use Rattle.claims.proofs.in_place.takes_one.Goals as goal

pub returns-else-last : goal.returns-else-last
returns-else-last c = rw (c.if-more.true, c.if-last.false) refl

-- `departure` meets its contract.
use mathlib.Core.Path.{refl}
use Rattle.published_link.proofs.departure.Goals as goal

pub returns : goal.returns
returns c = rw c.since.ensures refl

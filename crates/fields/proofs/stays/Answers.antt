-- `fields::stays` meets its contract.
use mathlib.Core.Path.{refl}
use Rattle.fields.proofs.stays.Goals as goal

pub returns : goal.returns
returns c = rw c.refused.ensures refl

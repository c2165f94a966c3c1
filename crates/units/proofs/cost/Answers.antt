-- `units::cost` meets its contract: a packet costs its charge.
use mathlib.Core.Path.{refl}
use Rattle.units.specs.Cost.{cost_of}
use Rattle.units.proofs.cost.Goals as goal

pub returns : goal.returns
unfolding cost_of
returns c = rw (c.max.ensures, c.from.ensures) refl

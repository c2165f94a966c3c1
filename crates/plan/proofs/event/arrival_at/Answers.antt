-- `event::arrival_at` meets its contract.
use mathlib.Core.Path.{refl}
use Rattle.plan.proofs.event.arrival_at.Goals as goal

pub returns : goal.returns
returns c = rw (c.number_16.ensures, c.number_32.ensures) refl

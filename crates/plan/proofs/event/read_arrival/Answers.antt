-- `event::read_arrival` meets its contract.
use Rattle.plan.proofs.event.read_arrival.Goals as goal

pub returns : goal.returns
returns c = rw (c.number_16.ensures, c.number_32.ensures)

-- `speed::after_arrival` meets its contract.
use Rattle.std.proofs.Common.{refl}
use Rattle.speed.proofs.after_arrival.Goals as goal

pub returns-in-Ok : goal.returns-in-Ok
returns-in-Ok c = rw c.in-Ok.is refl

pub returns-in-Err : goal.returns-in-Err
returns-in-Err c = rw c.in-Err.is c.tallied.ensures

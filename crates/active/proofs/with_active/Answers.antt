-- `active::with_active` meets its contract.
use native.Mathlib.Omega.{arith}
use Rattle.active.proofs.with_active.Goals as goal

pub returns-then-on : goal.returns-then-on
returns-then-on c = rw c.if-on.true c.plus.ensures

pub returns-else-on : goal.returns-else-on
returns-else-on c = rw c.if-on.false (omega arith)

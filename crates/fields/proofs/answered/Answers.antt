-- `fields::answered` meets its contract.
use mathlib.Core.Path.{refl}
use borrow.Author.Tests.{not-true, not-false}
use Rattle.fields.proofs.answered.Goals as goal

pub returns-then-not-went : goal.returns-then-not-went
returns-then-not-went c = rw (not-true c.args.went.some c.if-not-went.true) c.refused.ensures

pub returns : goal.returns
returns c = rw (not-false c.args.went.some c.if-not-went.false) (rw c.since.ensures refl)

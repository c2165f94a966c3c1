-- `event::replied` meets its contract.
use mathlib.Core.Path.{refl}
use borrow.Author.Tests.{not-true, not-false}
use Rattle.answers.proofs.event.replied.Goals as goal

pub returns-then-not-went : goal.returns-then-not-went
returns-then-not-went c =
    rw (not-true c.args.went.some c.if-not-went.true) (rw c.refusal.ensures refl)

pub returns : goal.returns
returns c =
    rw (not-false c.args.went.some c.if-not-went.false) (rw (c.since.ensures, c.from.ensures, c.from-2.ensures) refl)

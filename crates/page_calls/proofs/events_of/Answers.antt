-- `page_calls::events_of` meets its contract.
use mathlib.Core.Path.{refl}
use borrow.Author.Tests.{not-true, not-false}
use Rattle.page_calls.proofs.events_of.Goals as goal

pub returns-then-not-step : goal.returns-then-not-step
returns-then-not-step c = rw (not-true c.args.step.more c.if-not-step.true) (refl, refl)

pub returns : goal.returns
returns c =
    let more = not-false c.args.step.more c.if-not-step.false in
    rw more (record { answer = c.part.result; rules = c.part.ensures.parts; says = c.part_says.ensures })

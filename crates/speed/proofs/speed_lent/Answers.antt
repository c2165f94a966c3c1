-- `speed::speed_lent` meets its contract.
use borrow.Author.Tests.{not-true, not-false}
use Rattle.speed.proofs.Served.{text_none, text_part}
use Rattle.speed.proofs.speed_lent.Goals as goal

pub returns-then-not-begun : goal.returns-then-not-begun
returns-then-not-begun c =
    let a = c.args in
    text_none a.input.now c.begin-begun.result c.begin-begun.ensures a.out.now (not-true _ c.if-not-begun.true)

pub returns : goal.returns
returns c =
    let a = c.args in
    text_part a.input.now c.begin-begun.result c.begin-begun.ensures a.out.now c.part-part.result _ (not-false _ c.if-not-begun.false)
    c.part-part.ensures.parts

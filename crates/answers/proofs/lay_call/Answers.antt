-- `answers::lay_call` meets its contract.
use mathlib.Core.Path.{refl}
use Rattle.answers.proofs.lay_call.Goals as goal

pub returns-then-not-more : goal.returns-then-not-more
returns-then-not-more c = rw c.if-not-more.true (refl, refl)

pub returns : goal.returns
returns c =
    rw c.if-not-more.false c.lay.ensures

-- `opening::open_class` meets its contract.
use mathlib.Core.Path.{refl}
use Rattle.opening.proofs.open_class.Goals as goal

pub returns-then-not-on : goal.returns-then-not-on
returns-then-not-on c = rw c.if-not-on.true

pub returns-then-leaf : goal.returns-then-leaf
returns-then-leaf c =
    rw (c.if-not-on.false, c.if-leaf.true, c.take_quota-account.ensures) refl

pub returns : goal.returns
returns c =
    rw (c.if-not-on.false, c.if-leaf.false) c.share_out.ensures

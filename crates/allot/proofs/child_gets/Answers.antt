-- `allot::child_gets` meets its contract.
use borrow.Author.Tests.{le-leb, lt-leb}
use Rattle.allot.specs.Steps.{child_gets}
use mathlib.Core.Path.{refl}
use Rattle.allot.proofs.child_gets.Goals as goal

pub returns-then-asked-has : goal.returns-then-asked-has
unfolding child_gets
returns-then-asked-has c = rw (le-leb c.args.asked c.args.has c.if-asked-has.true) refl

pub returns-else-asked-has : goal.returns-else-asked-has
unfolding child_gets
returns-else-asked-has c = rw (lt-leb c.args.asked c.args.has c.if-asked-has.false) c.share.ensures

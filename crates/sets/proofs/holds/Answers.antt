-- `sets::holds` meets its contract: no number from 64 on is in a set.
use mathlib.Core.Path.{sym, ◌∙◌}
use borrow.Author.Tests.{le-ltb, ltb-true}
use Rattle.sets.proofs.Laws.{has_past}
use Rattle.sets.proofs.holds.Goals as goal

pub returns-else-number-lt-CLASSES : goal.returns-else-number-lt-CLASSES
returns-else-number-lt-CLASSES c = (
  le-ltb _ _ c.if-number-lt-CLASSES.false
      ∙ sym (has_past c.args.set c.args.number c.ranges.set.fits c.if-number-lt-CLASSES.false),
  λ e. ltb-true _ _ e,
)

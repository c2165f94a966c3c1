-- `desk::last_step` meets its contract: the first step where that is the last, else where the events lead.
use mathlib.Core.Path.{◌∙◌}
use borrow.Author.Tests.{not-true, not-false}
use Rattle.desk.proofs.Endings.{ends_first, ends_later, later_sound}
use Rattle.desk.proofs.last_step.Goals as goal

pub returns-then-not-step : goal.returns-then-not-step
returns-then-not-step c =
    ends_first _ c.first-step.result c.first-step.ensures (not-true _ c.if-not-step.true)

pub run_on-requires : goal.run_on-requires
run_on-requires c =
    later_sound _ c.first-step.result c.first-step.ensures (not-false _ c.if-not-step.false)

pub returns : goal.returns
returns c =
    c.run_on.ensures ∙ ends_later _ c.first-step.result c.first-step.ensures (not-false _ c.if-not-step.false)

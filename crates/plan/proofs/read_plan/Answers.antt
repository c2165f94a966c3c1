-- `plan::read_plan` meets its contract: the answer is the one the rules give, for any bytes. The records, and then closing.
use mathlib.Core.Path.{sym, ap, ◌∙◌}
use Rattle.plan.specs.Reader.{closed}
use Rattle.plan.proofs.Reading.{plan_halves, records_light}
use Rattle.plan.proofs.read_plan.Goals as goal

pub close_plan-requires : goal.close_plan-requires
close_plan-requires c = rw c.read_records.ensures (records_light _)

pub returns : goal.returns
returns c = c.close_plan.ensures ∙ ap closed c.read_records.ensures ∙ sym (plan_halves _)

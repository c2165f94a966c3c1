-- `speed::speed_plan` meets its contract.
use Rattle.std.proofs.Common.{ap}
use Rattle.plan.specs.declared.PlanRead.{PlanRead}
use Rattle.speed.proofs.speed_plan.Goals as goal

pub returns : goal.returns
returns c = ap (λ (r : PlanRead). r.used) c.read_plan-read.ensures

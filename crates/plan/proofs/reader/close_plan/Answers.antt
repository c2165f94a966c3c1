-- `reader::close_plan` meets its contract: only records that broke no rule are closed.
use Rattle.plan.proofs.reader.close_plan.Goals as goal

pub returns-in-Ok : goal.returns-in-Ok
returns-in-Ok c = rw c.in-Ok.is c.close_tree.ensures

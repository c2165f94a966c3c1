-- `record::inner_class` meets its contract.
use Rattle.plan.proofs.record.inner_class.Goals as goal

pub returns : goal.returns
returns c = rw c.number_32.ensures

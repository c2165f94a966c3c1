-- `record::leaf_class` meets its contract.
use Rattle.plan.proofs.record.leaf_class.Goals as goal

pub returns : goal.returns
returns c = rw (c.number_32.ensures, c.number_16.ensures)

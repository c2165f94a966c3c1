-- `reader::refuse` meets its contract.
use Rattle.plan.proofs.reader.refuse.Goals as goal

pub returns : goal.returns
returns c = rw c.none-tree.ensures

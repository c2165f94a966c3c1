-- `size::round_size` meets its contract.
use Rattle.shape.proofs.size.round_size.Goals as goal

pub unwrap-requires : goal.unwrap-requires
unwrap-requires c = c.plan_size.ensures.right.complete c.requires

pub returns : goal.returns
returns c = rw c.unwrap.ensures at c.plan_size.ensures.size

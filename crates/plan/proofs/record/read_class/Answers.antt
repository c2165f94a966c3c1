-- `record::read_class` meets its contract.
use mathlib.Core.Path.{◌∙◌}
use Rattle.plan.proofs.record.read_class.Goals as goal

pub leaf_class-requires : goal.leaf_class-requires
leaf_class-requires c = c.requires ∙ rw c.if-leaf.true

pub returns-then-leaf : goal.returns-then-leaf
returns-then-leaf c = rw c.if-leaf.true c.leaf_class.ensures

pub inner_class-requires : goal.inner_class-requires
inner_class-requires c = c.requires ∙ rw c.if-leaf.false

pub returns : goal.returns
returns c = rw c.if-leaf.false c.inner_class.ensures

-- `size::plan_size` meets its contract: a tree's shape is that tree.
use mathlib.Core.Path.{subst}
use Rattle.shape.specs.Steps.{Sizes}
use Rattle.shape.proofs.size.plan_size.Goals as goal

pub returns : goal.returns
returns c =
    subst (λ t. Sizes t c.plan_size_at.result) c.shape_of-shape.ensures c.plan_size_at.ensures.0

-- `page_calls::tree_of` meets its contract.
use mathlib.Core.Path.{refl}
use Rattle.page_calls.proofs.tree_of.Goals as goal

pub returns : goal.returns
returns c = rw c.weights_of-weight.ensures refl

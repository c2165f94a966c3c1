-- `tree::Tree::added` meets its contract.
use Rattle.tree.proofs.Tree.added.Goals as goal

pub returns : goal.returns
returns c = rw c.with_if-leaves.ensures

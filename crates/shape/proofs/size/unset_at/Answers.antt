-- `size::unset_at` meets its contract.
use mathlib.Core.Path.{sym, ◌∙◌}
use Rattle.shape.proofs.Read.{leaf_in, parent_in, weight_in_lem, longest_in}
use Rattle.shape.proofs.size.unset_at.Goals as goal

pub returns : goal.returns
returns c =
    let s = c.args.shape.now in
    let i = c.args.i in
    c.number_unset.ensures _ i (leaf_in s i ∙ sym c.has-leaf.ensures) (parent_in s i c.requires) (weight_in_lem s i c.requires)
    (longest_in s i c.requires)

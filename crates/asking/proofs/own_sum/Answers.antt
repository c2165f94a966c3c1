-- `own_sum` meets its contract: a leaf has no child, so its weight sum is 0.
use mathlib.Core.Path.{sym}
use Rattle.shape.specs.Shape.{tree_in}
use Rattle.rules.proofs.Sums.{sum_without}
use Rattle.rules.proofs.Taken.{leaf_childless}
use Rattle.asking.proofs.own_sum.Goals as goal

pub returns-then-leaf : goal.returns-then-leaf
returns-then-leaf c =
    let t = tree_in c.args.shape.now in
    sym (sum_without t c.args.active c.args.i
    (λ k cl e on. leaf_childless t c.args.i k c.requires.0 (c.requires.1 c.if-leaf.true) cl e))

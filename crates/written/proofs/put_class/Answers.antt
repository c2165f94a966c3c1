-- `written::put_class` meets its contract.
use mathlib.Core.Path.{ap}
use native.Mathlib.Omega.{arith}
use lib.ListN.{length}
use Rattle.digits.proofs.Laying.{laid_same}
use Rattle.written.proofs.Lengths.{class_as}
use Rattle.written.proofs.put_class.Goals as goal

pub put_record-requires : goal.put_record-requires
put_record-requires c =
    let n = ap length (class_as c.args.tree c.args.i c.has-leaf.result c.has-leaf.ensures) in
    omega (arith, n, c.requires.1)

pub returns : goal.returns
returns c =
    laid_same _ _ _ _ _ _ (class_as c.args.tree c.args.i c.has-leaf.result c.has-leaf.ensures) c.put_record.ensures

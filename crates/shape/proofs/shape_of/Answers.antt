-- `shape::shape_of` meets its contract.
use mathlib.Core.Path.{refl}
use native.Mathlib.Omega.{arith}
use Rattle.shape.proofs.Read.{laid_none, laid_on_lem, laid_whole, tree_weights}
use borrow.Author.Rules.{rules}
use Rattle.shape.proofs.shape_of.Goals as goal

pub loop-i-init : goal.loop-i-init
loop-i-init c = (omega arith, laid_none c.args.tree)

pub loop-i-preserved : goal.loop-i-preserved
loop-i-preserved c =
    let u = c.loop-i-test.true in
    (omega arith, laid_on_lem _ c.loop-i.i u _ c.loop-i.invariant.1 _ _ _ c.from.ensures c.from-in-loop-i.ensures c.from-in-loop-i-2.ensures)

pub returns : goal.returns
returns c =
    laid_whole c.args.tree _ c.loop-i.i (omega arith) c.loop-i.invariant.1 (search rules) (tree_weights c.args.tree _ c.well_formed.0)
    (search rules) _ c.rule.ensures

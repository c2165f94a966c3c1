-- `mend::mend_tree` meets its contract: 9, then 8, then 22, or the mended tree.
use mathlib.Core.Path.{sym, ◌∙◌}
use borrow.Author.Tests.{eq-eqb, ne_eqb}
use Rattle.tree.specs.Rules.{no_class}
use Rattle.mended.proofs.Answers.{mend_none, mend_child, mend_on}
use Rattle.mended.proofs.mend_tree.Goals as goal

pub returns-then-tree-eq0 : goal.returns-then-tree-eq0
unfolding no_class
returns-then-tree-eq0 c = rw (mend_none c.args.tree (eq-eqb _ _ c.if-tree-eq0.true)) c.refuse.ensures

pub returns-in-Ok : goal.returns-in-Ok
unfolding no_class
returns-in-Ok c =
    let t = c.args.tree in
    rw (mend_on t (ne_eqb _ _ c.if-tree-eq0.false) (sym c.child_fault-v.ensures ∙ c.in-Ok.is)) c.mend_shares.ensures

pub returns-in-Err : goal.returns-in-Err
unfolding no_class
returns-in-Err c =
    let t = c.args.tree in
    rw (mend_child t (ne_eqb _ _ c.if-tree-eq0.false) (sym c.child_fault-v.ensures ∙ c.in-Err.is)) c.refuse-in-Err.ensures

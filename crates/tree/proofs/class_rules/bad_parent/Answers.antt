-- `class_rules::bad_parent` meets its contract.
use native.Mathlib.Omega.{arith}
use borrow.Author.Tests.{le-leb, lt-leb}
use Rattle.tree.specs.Class.{is_leaf}
use Rattle.tree.specs.Rules.{bad_parent}
use Rattle.tree.proofs.class_rules.bad_parent.Goals as goal

pub returns-then-i-parent : goal.returns-then-i-parent
unfolding bad_parent
returns-then-i-parent c = λ t e p. rw (p, le-leb _ _ c.if-i-parent.true)

pub returns-else-i-parent : goal.returns-else-i-parent
unfolding bad_parent is_leaf
returns-else-i-parent c = λ t e p. rw (p, e, lt-leb c.args.i c.args.parent (omega (arith, c.if-i-parent.false))) c.has.ensures

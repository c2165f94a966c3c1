-- `class_rules::bad_weight` meets its contract.
use mathlib.Core.Path.{refl}
use borrow.Author.Tests.{lt-ltb, le-ltb}
use Rattle.tree.specs.Rules.{bad_weight}
use Rattle.tree.proofs.class_rules.bad_weight.Goals as goal

pub returns-then-weight-lt1 : goal.returns-then-weight-lt1
unfolding bad_weight
returns-then-weight-lt1 c = λ t i w. rw (w, lt-ltb _ _ c.if-weight-lt1.true) refl

pub returns-else-weight-lt1 : goal.returns-else-weight-lt1
unfolding bad_weight
returns-else-weight-lt1 c = λ t i w. rw (w, le-ltb _ _ c.if-weight-lt1.false) refl

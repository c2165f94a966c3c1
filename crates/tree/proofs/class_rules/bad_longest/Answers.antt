-- `class_rules::bad_longest` meets its contract.
use mathlib.Core.Path.{refl, ◌∙◌}
use native.Mathlib.Omega.{arith}
use borrow.Author.Tests.{lt-ltb, le-ltb, ltb-false}
use Rattle.checks.proofs.Laws.{not_true_and_false}
use Rattle.tree.specs.Rules.{bad_longest}
use Rattle.tree.proofs.class_rules.bad_longest.Goals as goal

pub returns-then-longest-lt1 : goal.returns-then-longest-lt1
unfolding bad_longest
returns-then-longest-lt1 c = (
  λ t i l m. rw (l ∙ c.if-leaf.true, m, lt-ltb _ _ c.if-longest-lt1.true) refl,
  λ e leaf. omega (arith, c.if-longest-lt1.true),
)

pub returns-else-longest-lt1 : goal.returns-else-longest-lt1
unfolding bad_longest
returns-else-longest-lt1 c = (
  λ t i l m. rw (l ∙ c.if-leaf.true, m, le-ltb _ _ c.if-longest-lt1.false) refl,
  λ e leaf. ltb-false _ _ e,
)

pub returns-else-leaf : goal.returns-else-leaf
unfolding bad_longest
returns-else-leaf c = (λ t i l m. rw (l, c.if-leaf.false) refl, λ e leaf. absurd (not_true_and_false leaf e))

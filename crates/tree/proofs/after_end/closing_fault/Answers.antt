-- `after_end::closing_fault` meets its contract: number 8, then number 7.
use mathlib.Core.Path.{refl, ◌∙◌}
use borrow.Author.Tests.{lt-ltb, le-ltb}
use Rattle.checks.specs.Check.{first_broken}
use Rattle.tree.specs.Class.{is_inner}
use Rattle.tree.specs.Rules.{too_heavy, childless}
use Rattle.tree.proofs.after_end.closing_fault.Goals as goal

pub returns-then-leaf : goal.returns-then-leaf
unfolding first_broken childless too_heavy is_inner
returns-then-leaf c = λ t is l k w s. rw (is, l ∙ c.if-leaf.true) refl

pub returns-then-not-child : goal.returns-then-not-child
unfolding first_broken childless too_heavy is_inner
returns-then-not-child c = λ t is l k w s. rw (is, l ∙ c.if-leaf.false, k ∙ c.if-not-child.true) refl

pub returns-then-weight-children : goal.returns-then-weight-children
unfolding first_broken childless too_heavy is_inner
returns-then-weight-children c = λ t is l k w s.
    rw (is, l ∙ c.if-leaf.false, k ∙ c.if-not-child.false, w, s, lt-ltb _ _ c.if-weight-children.true) refl

pub returns : goal.returns
unfolding first_broken childless too_heavy is_inner
returns c = λ t is l k w s.
    rw (is, l ∙ c.if-leaf.false, k ∙ c.if-not-child.false, w, s, le-ltb _ _ c.if-weight-children.false) refl

-- `plans::write_shape` meets its contract.
use mathlib.Core.Bool.{Bool, not}
use mathlib.Core.Path.{ap, subst, ◌∙◌}
use Rattle.checks.specs.Check.{Exactly}
use Rattle.tree.specs.Rules.{PlanRules}
use Rattle.shape.specs.Shape.{tree_in}
use Rattle.cometbanjo.proofs.Calling.{shape_refused}
use Rattle.cometbanjo.proofs.plans.write_shape.Goals as goal

pub returns-then-is_none : goal.returns-then-is_none
returns-then-is_none c =
    let a = c.args in
    shape_refused a.shape.now a.out.now
    (subst (λ (b : Bool). Exactly b (PlanRules (tree_in a.shape.now))) (c.is_none.ensures ∙ ap not c.if-is_none.true)
    c.plan_size_at.ensures.0.right)

pub tree_of-tree-requires : goal.tree_of-tree-requires
tree_of-tree-requires c = c.plan_size_at.ensures.0.right.sound (c.is_none.ensures ∙ ap not c.if-is_none.false)

pub returns : goal.returns
returns c = rw c.tree_of-tree.ensures at c.write_plan.ensures.writes

-- `inactive::has_active_child` meets its contract.
use mathlib.Core.Bool.{Bool, true, false, not}
use mathlib.Core.Path.{◌≡◌, refl}
use lib.Dec.{eqb}
use borrow.Author.Tests.{eqb-true, eqb-false}
use Rattle.tree.specs.declared.Tree.{Tree}
use Rattle.tree.specs.Sum.{some_to}
use Rattle.tree.specs.Rules.{PlanRules}
use Rattle.shape.specs.Shape.{Families}
use Rattle.rules.specs.Active.{active_child}
use Rattle.steps.proofs.Children.{child_left, no_child_left}
use Rattle.steps.proofs.inactive.has_active_child.Goals as goal

pub returns : goal.returns
returns c = λ t rules kin. left t rules kin (eqb c.both.result 0) refl
  where
    left : (t : Tree) → PlanRules t → Families t c.args.children.now → (none : Bool) → eqb c.both.result 0 ≡ none
        → not none ≡ some_to (active_child t c.args.active c.args.p) t.count
    left t rules kin true e =
        no_child_left t _ c.args.active c.args.p rules kin c.requires _ c.both.ensures (eqb-true c.both.result 0 e)
    left t rules kin false e =
        child_left t _ c.args.active c.args.p rules kin c.requires _ c.both.ensures (eqb-false c.both.result 0 e)

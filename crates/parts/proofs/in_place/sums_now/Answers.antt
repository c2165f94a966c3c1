-- `in_place::sums_now` meets its contract.
use mathlib.Core.Path.{refl}
use Rattle.checks.proofs.Laws.{not_true_and_false}
use Rattle.tree.specs.Rules.{PlanRules}
use Rattle.shape.specs.Shape.{tree_in}
use Rattle.steps.proofs.Rounding.{raised_none, round_kept}
use Rattle.parts.proofs.in_place.sums_now.Goals as goal
use Rattle.parts.proofs.in_place.sums_now.Goals.{Else-not-sound}

-- the tree of a sound record obeys the rules
rules : (i : Else-not-sound) → PlanRules (tree_in i.args.shape.now)
rules i = i.requires.0 i.if-not-sound.false

pub returns-then-not-sound : goal.returns-then-not-sound
returns-then-not-sound c = λ on. absurd (not_true_and_false on c.if-not-sound.true)

pub round_active-known-requires : goal.round_active-known-requires
round_active-known-requires c = (rules c, raised_none _ (rules c))

pub refresh-requires : goal.refresh-requires
refresh-requires c = (rules (goal.at.refresh-requires c).Else-not-sound, c.requires.1)

pub returns : goal.returns
returns c =
    λ on. round_kept _ _ _ _ _ (rules (goal.at.returns c).Else-not-sound) c.round_active-known.ensures refl c.refresh.ensures

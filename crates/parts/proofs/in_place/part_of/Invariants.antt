-- `in_place::part_of` meets its contract: the link of the locals is the link after the events before the place, and their lines are laid.
use mathlib.Core.Bool.{true}
use mathlib.Core.Path.{◌≡◌}
use Rattle.shape.specs.Shape.{tree_in}
use Rattle.state.specs.Queue.{Shaped}
use Rattle.steps.specs.Fields.{link_at}
use Rattle.steps.specs.Rounds.{Kept}
use Rattle.run.proofs.Lines.{steps_left}
use Rattle.parts.proofs.Parts.{Laying}
use Rattle.parts.proofs.in_place.part_of.Given as goal

abbrev pub invariant-loop-kept : goal.invariant-loop-kept
invariant-loop-kept l =
    let t = tree_in l.shape in
    let link = link_at l.run.sound t l.run.stand l.balance l.residual l.start l.held l.lengths l.tags l.marks l.packets l.bytes in
    Laying (link_at l.initial.run.sound t l.initial.run.stand l.initial.balance l.initial.residual l.initial.start l.initial.held l.initial.lengths l.initial.tags l.initial.marks l.initial.packets l.initial.bytes) l.input l.place l.initial.out
    (record { laid = l.laid; more = l.run.more; link = link; place = l.run.place }) l.out
    × Shaped link × (l.run.sound ≡ l.sound) × (l.sound ≡ true → Kept t l.run.stand.known l.kept)

abbrev pub decreases-loop-kept : goal.decreases-loop-kept
decreases-loop-kept l =
    steps_left l.input l.run.more l.run.place

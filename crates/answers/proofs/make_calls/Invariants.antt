-- `answers::make_calls` meets its contract: the link of the arrays is the one after the calls made so far, and their rows are laid.
use mathlib.Core.Bool.{true}
use mathlib.Core.Path.{◌≡◌}
use Rattle.shape.specs.Shape.{tree_in}
use Rattle.state.specs.declared.Link.{Link}
use Rattle.steps.specs.Fields.{link_at}
use Rattle.steps.specs.Rounds.{Kept}
use Rattle.run.proofs.Lines.{steps_left}
use Rattle.answers.specs.declared.event.Heard.{Heard}
use Rattle.answers.specs.Steps.{Next, Told}
use Rattle.answers.proofs.Bursts.{Making}
use Rattle.answers.proofs.make_calls.Given as goal

-- what the last event gave, with the link after it
abbrev pub next_of : Heard → Link → Next
next_of run link = record { reply = run.reply; more = run.more; link = link; place = run.place }

abbrev pub invariant-loop-kept : goal.invariant-loop-kept
invariant-loop-kept l =
    let t = tree_in l.shape in
    let link = link_at l.run.sound t l.run.stand l.balance l.residual l.start l.held l.lengths l.tags l.marks l.packets l.bytes in
    Making (link_at l.initial.run.sound t l.initial.run.stand l.initial.balance l.initial.residual l.initial.start l.initial.held l.initial.lengths l.initial.tags l.initial.marks l.initial.packets l.initial.bytes) l.input l.place l.initial.out
    (next_of l.run link) l.laid l.out
    × Told l.run.sound link × (l.run.sound ≡ true) × Kept t l.run.stand.known l.kept

abbrev pub decreases-loop-kept : goal.decreases-loop-kept
decreases-loop-kept l = steps_left l.initial.out l.run.more l.laid

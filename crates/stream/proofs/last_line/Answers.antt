-- `stream::last_line` meets its contract.
use mathlib.Core.Path.{ap, ◌∙◌}
use Rattle.plan.specs.Event.{EventRead}
use Rattle.run.specs.Event.{last_line}
use Rattle.stream.proofs.last_line.Goals as goal

pub returns : goal.returns
returns c = c.last_line.ensures ∙ ap (λ (x : EventRead). last_line x c.args.link) c.read_event.ensures

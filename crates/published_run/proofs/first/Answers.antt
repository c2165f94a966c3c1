-- `first` meets its contract.
use mathlib.Core.Path.{ap}
use Rattle.published_run.specs.Steps.{second_of_step}
use Rattle.published_run.proofs.first.Goals as goal

pub returns : goal.returns
returns c = ap second_of_step c.first-step.ensures

-- `rounds::asked_first` meets its contract.
use mathlib.Core.Bool.{Bool}
use mathlib.Core.Path.{sym, ap, ◌∙◌}
use Rattle.rules.specs.Opening.{kind_is}
use Rattle.published.specs.Visiting.{asked_first}
use Rattle.published_send.proofs.rounds.asked_first.Goals as goal

pub returns-then-surplus : goal.returns-then-surplus
returns-then-surplus c = c.with.ensures ∙ ap (λ (b : Bool). asked_first (kind_is b)) (sym c.if-surplus.true)

pub returns-else-surplus : goal.returns-else-surplus
returns-else-surplus c = ap (λ (b : Bool). asked_first (kind_is b)) (sym c.if-surplus.false)

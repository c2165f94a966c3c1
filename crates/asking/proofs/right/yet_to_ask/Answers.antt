-- `right::yet_to_ask` meets its contract.
use mathlib.Core.Bool.{Bool, ◌&&◌}
use mathlib.Core.Path.{ap, ◌∙◌}
use native.Mathlib.Omega.{arith}
use Rattle.sets.specs.Set.{has}
use Rattle.sets.proofs.Laws.{has_not}
use Rattle.asking.proofs.right.yet_to_ask.Goals as goal

pub returns : goal.returns
returns c =
    let a = c.args in
    record { at = λ i u. c.both.ensures.both i ∙ ap (λ (b : Bool). has a.active i && b) (has_not a.asked i (omega arith) u) }

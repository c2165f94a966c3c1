-- `visits.first_cost` meets its contract.
use mathlib.Core.Path.{ap, ◌∙◌}
use Prim.Native.Nat.{ℕ}
use lib.ListN.{get_or}
use Rattle.units.specs.Cost.{cost_of}
use Rattle.asking.proofs.visits.first_cost.Goals as goal

pub returns : goal.returns
returns c = c.cost.ensures ∙ ap (λ (k : ℕ). cost_of (get_or c.args.lengths.now k 0))
    c.slot.ensures.0

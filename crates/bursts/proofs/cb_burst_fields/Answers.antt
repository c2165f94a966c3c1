-- `cb_burst_fields` meets its contract.
use mathlib.Core.List.{List}
use mathlib.Core.Path.{ap}
use Prim.Native.Nat.{ℕ}
use lib.ListN.{get_or}
use Rattle.bursts.proofs.cb_burst_fields.Goals as goal

pub returns : goal.returns
returns c =
    let b = c.burst-end in
    let said = c.burst_said-numbers.ensures in
    record { answer = b.result; rules = b.ensures; answers = ap (λ (l : List ℕ). get_or l 0 0) said; numbers = said }

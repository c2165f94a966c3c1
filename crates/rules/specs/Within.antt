-- A leaf sends before more than n rounds have opened. Demand 2.
use Rattle.std.specs.Prelude.{◌≡◌, ℕ, zero, suc, ◌<◌}
use Rattle.state.specs.State.{State}
use Rattle.rules.specs.Opening.{opened}
use Rattle.rules.specs.Sending.{next_leaf}

-- it is found at once, or where the round has closed, within one round less
unfoldable pub Within : ℕ → State → Type 0
Within zero s = next_leaf s < 64
Within (suc n) s = next_leaf s ≡ 64 → Within n (opened s)

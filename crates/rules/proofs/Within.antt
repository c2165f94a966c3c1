-- Within how many rounds a leaf sends, as a loop counts them down. Demand 2.
use mathlib.Core.Path.{◌≡◌}
use Prim.Native.Nat.{ℕ, suc, ◌<◌}
use Rattle.state.specs.State.{State}
use Rattle.sound.specs.Sound.{Sound}
use Rattle.rules.specs.Opening.{opened}
use Rattle.rules.specs.Sending.{next_leaf}
use Rattle.rules.specs.Wide.{Wide}
use Rattle.rules.specs.Waits.{Waits}
use Rattle.rules.specs.Within.{Within}
use Rattle.rules.proofs.Rounds.{second_sends}

-- a leaf sends before a third round would open
pub within_two : (s : State) → Sound s → Wide s → Waits s → Within 2 s
unfolding Within
within_two s sound wide waits closed again =
    second_sends s sound wide waits closed again

-- one round less
pub within_less : (n : ℕ) (s : State) → Within (suc n) s → next_leaf s ≡ 64 → Within n (opened s)
unfolding Within
within_less n s w closed = w closed

-- where no round is left, a leaf is found
pub within_none : (s : State) → Within 0 s → next_leaf s < 64
unfolding Within
within_none s w = w

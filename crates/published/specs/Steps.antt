-- A send of the second engine under way: what its steps are stated with; no rule of its own.
use Rattle.std.specs.Prelude.{List, ◌≡◌, ℕ, ◌-◌, ◌≤◌, length}
use Rattle.state.specs.State.{State, in_round}
use Rattle.rules.specs.Waits.{Waits}
use Rattle.rules.specs.Within.{Within}
use Rattle.published.specs.Asking.{Published}
use Rattle.published.specs.Visiting.{passes_in, passage_of}
use Rattle.published.specs.Settled.{settled}
use Rattle.published.specs.Sound.{SoundPublished, WidePublished}

-- state x is state x₀ after some rounds have opened
pub record OnTheWay (x₀ x : Published) (rounds : ℕ) : Type 0 where
  pub sound : SoundPublished x
  pub wide : WidePublished x
  pub waits : Waits (settled x)
  pub few : rounds ≤ 2
  pub within : Within (2 - rounds) (settled x)
  pub same : x.state ≡ in_round x₀.state x.state.round
  pub closings : List State
  pub counted : length closings ≡ rounds
  pub passage : passage_of x₀ ≡ passes_in (64 - rounds) closings x

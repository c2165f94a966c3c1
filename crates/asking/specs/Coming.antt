-- Visits over lent arrays: where first packets lie, and what is found.
use Rattle.std.specs.Prelude.{true, List, ◌≡◌, ℕ, ◌≤◌, ◌<◌, length, get_or}
use Rattle.sets.specs.Set.{Both}
use Rattle.units.specs.Cost.{cost_of}
use Rattle.tree.specs.Class.{is_leaf}
use Rattle.state.specs.Queue.{slot}
use Rattle.state.specs.State.{queue_at}
use Rattle.rules.specs.Sending.{first_of}
use Rattle.published.specs.Asking.{Published}
use Rattle.published.specs.Visiting.{visits_from}
use Rattle.published.specs.Sound.{SoundPublished, WidePublished}
use Rattle.asking.specs.Lent.{Lent}

-- these are the active leaves of x, and the first packet of each leaf that holds one lies at its start
pub record Lying (x : Published) (leaves : ℕ) (start lengths : List ℕ) : Type 0 where
  pub both : Both x.state.round.active x.state.tree.leaves leaves
  pub first : (i : ℕ) → i < 64 → is_leaf x.state.tree i ≡ true → 1 ≤ length (queue_at x.state i)
      → cost_of (first_of x.state i).length ≡ cost_of (get_or lengths (slot i (get_or start i 0)) 0)

-- the visits of x from a place on find this leaf, and leave these fields
pub record Found (x : Published) (place leaf active asked : ℕ) (shape balance residual quotas : List ℕ) : Type 0 where
  pub leaf_is : leaf ≡ (visits_from 64 x place).leaf
  pub lent : Lent (visits_from 64 x place).after active asked shape balance residual quotas

-- the visits of x from a place on have come to y and another place
pub record Reached (x : Published) (place at leaves active asked : ℕ) (shape balance residual quotas start lengths : List ℕ) : Type 0 where
  pub y : Published
  pub lent : Lent y active asked shape balance residual quotas
  pub lying : Lying y leaves start lengths
  pub sound : SoundPublished y
  pub wide : WidePublished y
  pub same : visits_from 64 x place ≡ visits_from 64 y at

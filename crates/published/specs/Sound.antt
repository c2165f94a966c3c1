-- When a state of the second engine is sound (R326 to R329): the list of the first engine over its own accounts, and three clauses on who
-- has asked. Demands 1 to 3.
use Rattle.std.specs.Prelude.{true, ◌≡◌, ℕ, ◌≤◌, ◌<◌, length}
use Rattle.sets.specs.Set.{has}
use Rattle.units.specs.Unit.{due_of}
use Rattle.tree.specs.Class.{parent_of, is_class, is_leaf}
use Rattle.state.specs.Account.{balance_of}
use Rattle.sound.specs.Sound.{Sound}
use Rattle.rules.specs.Wide.{Wide}
use Rattle.published.specs.Asking.{Published, quota_at}
use Rattle.published.specs.Settled.{owed_sum}

-- an active class that has its quota asked its parent, which has its own (R327)
pub record AskedParent (x : Published) (i : ℕ) : Type 0 where
  pub up : is_class x.state.tree i ≡ true → has x.state.round.active i ≡ true → has x.asked i ≡ true
      → has x.asked (parent_of x.state.tree i) ≡ true

-- a class that has its quota can pay what the children that have yet to ask will take (R328)
pub record CanPay (x : Published) (i : ℕ) : Type 0 where
  pub pays : has x.asked i ≡ true → due_of (owed_sum x i) (quota_at x i) ≤ balance_of x.state.round.accounts i

-- every active leaf numbered below the place has been visited, and so has asked (R329)
pub record AskedBehind (x : Published) (i : ℕ) : Type 0 where
  pub asked : is_leaf x.state.tree i ≡ true → has x.state.round.active i ≡ true → i < x.state.round.place
      → has x.asked i ≡ true

-- all of it (R326 to R329)
pub record SoundPublished (x : Published) : Type 0 where
  pub state : Sound x.state
  pub parents : (i : ℕ) → i < 64 → AskedParent x i
  pub pay : (i : ℕ) → i < 64 → CanPay x i
  pub behind : (i : ℕ) → i < 64 → AskedBehind x i

-- as wide as the record of the code; no rule of its own
pub record WidePublished (x : Published) : Type 0 where
  pub state : Wide x.state
  pub quotas : length x.quotas ≡ 64

-- A send of the second engine under way, over lent arrays; no rule of its own.
use Rattle.std.specs.Prelude.{true, List, ◌≡◌, ℕ, ◌≤◌, ◌<◌, length, get_or, set}
use Rattle.units.specs.Cost.{cost_of}
use Rattle.tree.specs.declared.Tree.{Tree}
use Rattle.tree.specs.Class.{is_leaf}
use Rattle.state.specs.declared.Account.{Account}
use Rattle.state.specs.Queue.{slot}
use Rattle.state.specs.State.{queue_at}
use Rattle.rules.specs.Active.{round_active}
use Rattle.rules.specs.Opening.{kind_of, size_in, resized}
use Rattle.rules.specs.Sending.{first_of}
use Rattle.published.specs.Asking.{Published}
use Rattle.published.specs.Visiting.{visited, asked_first}
use Rattle.published.specs.Steps.{OnTheWay}
use Rattle.shape.specs.Shape.{tree_in}
use Rattle.asking.specs.Lent.{Lent}
use Rattle.published_send.specs.declared.rounds.Opening.{Opening}
use Rattle.published_send.specs.declared.rounds.Turned.{Turned}

-- the accounts that a round shares out, in the numbers of the record
abbrev pub shared_from : Tree → ℕ → ℕ → List Account → List Account
shared_from t active size accounts = resized (kind_of t active accounts) size (size_in (kind_of t active accounts) t active size) accounts

-- a round has opened on these accounts and quotas, and has shared out nothing yet
pub record OpensUnshared (t : Tree) (active size : ℕ) (accounts : List Account) (quotas : List ℕ) (r : Opening) (accounts' : List Account)
    (quotas' : List ℕ) : Type 0 where
  pub asked_is : r.asked ≡ asked_first (kind_of t active accounts)
  pub size_is : r.size.0 ≡ size_in (kind_of t active accounts) t active size
  pub accounts_are : accounts' ≡ shared_from t active size accounts
  pub quotas_are : quotas' ≡ set quotas 0 0

-- some rounds have opened on x₀, the last one has closed, these fields are left, and these classes are active in the next
pub record Under (x₀ : Published) (size active rounds : ℕ) (shape balance residual quotas start lengths : List ℕ) : Type 0 where
  pub x : Published
  pub way : OnTheWay x₀ x rounds
  pub closed : (visited x).leaf ≡ 64
  pub sized : (visited x).after.state.round.size.0 ≡ size
  pub taken : active ≡ round_active (visited x).after.state
  pub old : ℕ
  pub asked : ℕ
  pub lent : Lent (visited x).after old asked shape balance residual quotas
  pub first : (i : ℕ) → i < 64 → is_leaf (tree_in shape) i ≡ true → 1 ≤ length (queue_at (visited x).after.state i)
      → cost_of (first_of (visited x).after.state i).length ≡ cost_of (get_or lengths (slot i (get_or start i 0)) 0)

-- a leaf has been found in the round at hand or in the last of some rounds that opened, and these fields are left
pub record Arrived (x₀ : Published) (r : Turned) (shape balance residual quotas : List ℕ) : Type 0 where
  pub x : Published
  pub way : OnTheWay x₀ x r.rounds
  pub leaf_is : r.leaf ≡ (visited x).leaf
  pub found : r.leaf < 64
  pub sized : (visited x).after.state.round.size.0 ≡ r.size.0
  pub lent : Lent (visited x).after r.active r.asked shape balance residual quotas

-- The parts of a state of the second engine that an ask is lent.
use Rattle.std.specs.Prelude.{Bool, true, List, ◌≡◌, ℕ, ◌+◌, ◌*◌, ◌≤◌, get_or, set}
use Rattle.sets.specs.Set.{has}
use Rattle.units.specs.Unit.{quota_of}
use Rattle.tree.specs.Class.{is_leaf}
use Rattle.state.specs.declared.Account.{Account}
use Rattle.state.specs.Account.{account_of, funds_of, took_quota, handed_down}
use Rattle.state.specs.Account.{zip_accounts}
use Rattle.shape.specs.Shape.{tree_in}
use Rattle.published.specs.Asking.{Published}
use Rattle.published.specs.Sound.{SoundPublished, WidePublished}

-- class i has taken its due from class p: the accounts and the quotas after it
pub record TookFrom (i p weight sum : ℕ) (accounts : List Account) (quotas : List ℕ) (accounts' : List Account) (quotas' : List ℕ)
    : Type 0 where
  pub accounts_are : accounts'
      ≡ set (set accounts p (handed_down (account_of accounts p) (weight * get_or quotas p 0))) i
      (took_quota (account_of (set accounts p (handed_down (account_of accounts p) (weight * get_or quotas p 0))) i) (weight * get_or quotas p 0))
  pub quotas_are : quotas'
      ≡ set quotas i
      (quota_of (funds_of (account_of (set accounts p (handed_down (account_of accounts p) (weight * get_or quotas p 0))) i)
      + weight * get_or quotas p 0) sum)

-- x has these fields
pub record Lent (x : Published) (active asked : ℕ) (shape balance residual quotas : List ℕ) : Type 0 where
  pub tree : x.state.tree ≡ tree_in shape
  pub active_is : x.state.round.active ≡ active
  pub accounts : x.state.round.accounts ≡ zip_accounts balance residual
  pub asked_is : x.asked ≡ asked
  pub quotas_are : x.quotas ≡ quotas

-- class i of x can ask, and where it is said to be a leaf it is one
pub record Asker (x : Published) (i : ℕ) (leaf : Bool) : Type 0 where
  pub sound : SoundPublished x
  pub wide : WidePublished x
  pub last : i ≤ x.state.tree.count
  pub on : has x.state.round.active i ≡ true
  pub childless : leaf ≡ true → is_leaf x.state.tree i ≡ true

-- The steps of an opening over lent accounts.
use Rattle.std.specs.Prelude.{Bool, cond, List, ◌++◌, ◌≡◌, ℕ, ◌+◌, ◌-◌, drop, replicate}
use Rattle.units.specs.Unit.{due_of, quota_of}
use Rattle.tree.specs.declared.Tree.{Tree}
use Rattle.state.specs.declared.Account.{Account}
use Rattle.state.specs.Account.{funds_of, took_quota, handed_down}
use Rattle.tree.specs.Sum.{table}
use Rattle.rules.specs.Opening.{Kind, kind_is, kind_of, size_in, resized, quota, opened_account, opened_accounts}
use Rattle.opening.specs.declared.Shared.{Shared}
use Rattle.opening.specs.declared.Begun.{Begun}
use Rattle.state.specs.Account.{zip_accounts}

-- an account that takes its due and shares out what it has over a weight sum
abbrev pub shared_out : ℕ → Account → ℕ → Shared
shared_out sum a due = record {
  account = handed_down (took_quota a due) (due_of sum (quota_of (funds_of a + due) sum));
  quota = quota_of (funds_of a + due) sum;
}

-- the root, and a class other than the root
abbrev pub root_shared : Bool → ℕ → Account → Shared
root_shared surplus sum a = cond surplus (record { account = a; quota = 0 }) (shared_out sum a 0)

abbrev pub class_shared : Bool → Bool → ℕ → ℕ → Account → Shared
class_shared on leaf sum due a =
    cond on (cond leaf (record { account = took_quota a due; quota = 0 }) (shared_out sum a due)) (record { account = a; quota = 0 })

-- a round has begun on these accounts with this size in force, and shares out nothing yet
pub record BeginsWith (t : Tree) (active size : ℕ) (accounts : List Account) (r : Begun) (after : List Account) : Type 0 where
  pub kind_is_lem : kind_is r.surplus ≡ kind_of t active accounts
  pub size_is : r.size.0 ≡ size_in (kind_of t active accounts) t active size
  pub accounts_are : after ≡ resized (kind_of t active accounts) size (size_in (kind_of t active accounts) t active size) accounts

-- a round has opened on these accounts with this size in force: what is in force then, and the accounts
pub record OpensWith (t : Tree) (active size : ℕ) (accounts : List Account) (new : ℕ) (after : List Account) : Type 0 where
  pub size_is : new ≡ size_in (kind_of t active accounts) t active size
  pub accounts_are : after
      ≡ opened_accounts (kind_of t active accounts) t active
      (resized (kind_of t active accounts) size (size_in (kind_of t active accounts) t active size) accounts)

-- the opening has come to class i
pub record OpenedUpTo (kind : Kind) (t : Tree) (active : ℕ) (accounts : List Account) (i : ℕ) (quotas balance residual : List ℕ) : Type 0
  where
    pub shares : quotas ≡ table (quota kind t active accounts) i ++ replicate (64 - i) 0
    pub opened : zip_accounts balance residual ≡ table (opened_account kind t active accounts) i ++ drop i accounts

-- The engine as published (R315 to R319; section IV of the published HLS paper): a class that has no quota yet in this round asks its
-- parent, which asks its own parent, up to the root (equations (4) to (8)). Demand 2.
use Rattle.std.specs.Prelude.{cond, List, ℕ, zero, suc, get_or, set}
use Rattle.sets.specs.Set.{has, with}
use Rattle.units.specs.Unit.{due_of, quota_of}
use Rattle.tree.specs.Class.{parent_of, weight_of}
use Rattle.state.specs.declared.Account.{Account}
use Rattle.state.specs.Account.{account_of, took_quota, handed_down}
use Rattle.state.specs.State.{State, round_of, in_round}
use Rattle.rules.specs.Active.{weight_sum}

-- a state of the second engine: one of the first, the set of the classes that have their quota in this round, and the quotas (R316)
pub record Published : Type 0 where
  pub state : State
  pub asked : ℕ
  pub quotas : List ℕ

-- the quota that class i has (R316)
abbrev pub quota_at : Published → ℕ → ℕ
quota_at x i = get_or x.quotas i 0

-- the state with other accounts
abbrev pub with_accounts : State → List Account → State
with_accounts s accounts = in_round s (round_of s.round.size.0 s.round.active s.round.place accounts)

-- class i takes R and its due into B, sets R to 0, and works out its own quota: B over its active children's weight sum (R318, R319;
-- equations (4), (6))
unfoldable pub takes : Published → ℕ → ℕ → Published
takes x i due =
    let a = took_quota (account_of x.state.round.accounts i) due in
    record {
      state = with_accounts x.state (set x.state.round.accounts i a);
      asked = with x.asked i;
      quotas = set x.quotas i (quota_of a.balance.0 (weight_sum x.state.tree x.state.round.active i));
    }

-- the balance of class p falls by what it hands down to one child (R318)
unfoldable pub hands : Published → ℕ → ℕ → Published
hands x p due = record {
  state = with_accounts x.state (set x.state.round.accounts p (handed_down (account_of x.state.round.accounts p) due));
  asked = x.asked;
  quotas = x.quotas;
}

-- class i takes its weight times its parent's quota, and its parent's balance falls by it (R318; equations (7), (8))
unfoldable pub takes_from_parent : Published → ℕ → Published
takes_from_parent x i =
    let p = parent_of x.state.tree i in
    let due = due_of (weight_of x.state.tree i) (quota_at x p) in
    takes (hands x p due) i due

-- a class that has no quota yet in this round asks its parent first, and so on up to the root; n is above the class number, which falls
-- (R317)
unfoldable pub asks : ℕ → Published → ℕ → Published
asks zero x i = x
asks (suc n) x zero = cond (has x.asked 0) x (takes x 0 0)
asks (suc n) x (suc i) =
    cond (has x.asked (suc i)) x (takes_from_parent (asks n x (parent_of x.state.tree (suc i))) (suc i))

-- with as many steps up as there can be (R317)
unfoldable pub ask : Published → ℕ → Published
ask x i = asks 64 x i

-- The state of the first engine that a state of the second stands for: the one in which every active class has asked (R325). Demands 2
-- and 3.
use Rattle.std.specs.Prelude.{Bool, cond, ◌&&◌, not, ℕ, zero, suc, ◌+◌}
use Rattle.sets.specs.Set.{has}
use Rattle.units.specs.Unit.{due_of, quota_of}
use Rattle.tree.specs.Class.{parent_of, weight_of, children_sum}
use Rattle.state.specs.declared.Account.{Account}
use Rattle.state.specs.Account.{account_of, funds_of, took_quota, handed_down}
use Rattle.tree.specs.Sum.{table}
use Rattle.state.specs.State.{State}
use Rattle.rules.specs.Active.{weight_sum}
use Rattle.published.specs.Asking.{Published, quota_at, with_accounts}

-- class i is active and has no quota yet in this round (R325, R328)
unfoldable pub unasked : Published → ℕ → Bool
unasked x i = has x.state.round.active i && not (has x.asked i)

-- the weight of class i where it has yet to ask, and what the children of class p that have yet to ask weigh together (R325, R328)
unfoldable pub owed_weight : Published → ℕ → ℕ
owed_weight x i = cond (unasked x i) (weight_of x.state.tree i) 0

unfoldable pub owed_sum : Published → ℕ → ℕ
owed_sum x p = children_sum x.state.tree (owed_weight x) p

-- the quota that class i has, or will work out when it asks; n is above the class number (R325)
unfoldable pub share_in : ℕ → Published → ℕ → ℕ
share_in zero x i = quota_at x i
share_in (suc n) x i =
    cond (unasked x i)
    (quota_of (funds_of (account_of x.state.round.accounts i) + due_of (weight_of x.state.tree i)
    (share_in n x (parent_of x.state.tree i)))
    (weight_sum x.state.tree x.state.round.active i))
    (quota_at x i)

-- with as many steps up as there can be (R325)
unfoldable pub share : Published → ℕ → ℕ
share x i = share_in 64 x i

-- the account of class i when it has asked (R325)
unfoldable pub asked_account : Published → ℕ → Account
asked_account x i =
    cond (unasked x i)
    (took_quota (account_of x.state.round.accounts i) (due_of (weight_of x.state.tree i) (share x (parent_of x.state.tree i))))
    (account_of x.state.round.accounts i)

-- and when all its children have: its balance falls by what it still owes them (R325)
unfoldable pub settled_account : Published → ℕ → Account
settled_account x i = handed_down (asked_account x i) (due_of (owed_sum x i) (share x i))

-- and so every account (R325)
unfoldable pub settled : Published → State
settled x = with_accounts x.state (table (settled_account x) 64)

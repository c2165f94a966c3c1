-- Opening a round (R124 to R134; equations (4) to (9) of the published HLS paper). Demand 2.
use Rattle.std.specs.Prelude.{Bool, true, false, cond, ◌&&◌, List, ◌≡◌, ℕ, zero, suc, ◌+◌, ◌≤◌, eqb, set}
use Rattle.sets.specs.Set.{has}
use Rattle.units.specs.Unit.{due_of, quota_of, surplus_of}
use Rattle.tree.specs.declared.Tree.{Tree}
use Rattle.tree.specs.Class.{parent_of, weight_of, is_leaf, is_inner}
use Rattle.tree.specs.Size.{SizeRight}
use Rattle.tree.specs.Sum.{some_to, table}
use Rattle.state.specs.declared.Account.{Account}
use Rattle.state.specs.Account.{account_of, funds_of, took_size, took_quota, handed_down}
use Rattle.state.specs.State.{State, round_of, in_round}
use Rattle.rules.specs.Active.{round_active, weight_sum}
use Rattle.rules.specs.Sizes.{active_size, main_size}

-- the two kinds of rounds (R125)
pub data Kind : Type 0 where
  main : Kind
  surplus : Kind

-- a surplus round, or not
abbrev pub kind_is : Bool → Kind
kind_is true = surplus
kind_is false = main

-- class i is inner and active, and has B + R at or above the weight sum of its active children (R124)
unfoldable pub surplus_at : Tree → ℕ → Account → ℕ → Bool
surplus_at t active account i = is_inner t i && has active i && surplus_of (funds_of account) (weight_sum t active i)

unfoldable pub has_surplus : Tree → ℕ → List Account → ℕ → Bool
has_surplus t active accounts i = surplus_at t active (account_of accounts i) i

-- a surplus round if some active inner class has a surplus; otherwise a main round (R124, R125)
unfoldable pub kind_of : Tree → ℕ → List Account → Kind
kind_of t active accounts = cond (some_to (has_surplus t active accounts) t.count) surplus main

-- the size in force when the round has opened: a main round sets it anew, a surplus round leaves it (R229)
abbrev pub size_in : Kind → Tree → ℕ → ℕ → ℕ
size_in main t active size = main_size t active
size_in surplus t active size = size

-- the accounts that the round shares out: in a main round the root takes the difference between the new size and the old one, once its
-- residual has joined its balance (R230)
abbrev pub resized : Kind → ℕ → ℕ → List Account → List Account
resized main old new accounts = set accounts 0 (took_size (account_of accounts 0) old new)
resized surplus old new accounts = accounts

-- the root's fair quota: in a main round B + R over its active children's weight sum, rounded down; in a surplus round 0 (R126, R127)
abbrev pub root_share : Kind → Tree → ℕ → Account → ℕ
root_share main t active root = quota_of (funds_of root) (weight_sum t active 0)
root_share surplus t active root = 0

abbrev pub root_quota : Kind → Tree → ℕ → List Account → ℕ
root_quota kind t active accounts = root_share kind t active (account_of accounts 0)

-- an inner class works out its own likewise, from R and its due taken into B; n is as many steps up to the root as there can be (R129)
unfoldable pub quota_in : ℕ → Kind → Tree → ℕ → List Account → ℕ → ℕ
quota_in zero kind t active accounts i = root_quota kind t active accounts
quota_in (suc n) kind t active accounts zero = root_quota kind t active accounts
quota_in (suc n) kind t active accounts (suc i) =
    quota_of (funds_of (account_of accounts (suc i)) + due_of (weight_of t (suc i)) (quota_in n kind t active accounts (parent_of t (suc i))))
    (weight_sum t active (suc i))

unfoldable pub quota : Kind → Tree → ℕ → List Account → ℕ → ℕ
quota kind t active accounts i = quota_in 63 kind t active accounts i

-- what class i is due: its weight times its parent's quota (R128, R130)
unfoldable pub due : Kind → Tree → ℕ → List Account → ℕ → ℕ
due kind t active accounts i = due_of (weight_of t i) (quota kind t active accounts (parent_of t i))

-- what class i hands down: its quota for each unit of its active children's weight (R131)
unfoldable pub hands_down : Kind → Tree → ℕ → List Account → ℕ → ℕ
hands_down kind t active accounts i = due_of (weight_sum t active i) (quota kind t active accounts i)

-- the root's account after the opening: in a main round its residual joins its balance, which falls by what it hands down
-- (R126, R127, R131)
abbrev pub root_opened : Kind → Tree → ℕ → Account → Account
root_opened main t active root = handed_down (took_quota root 0) (due_of (weight_sum t active 0) (root_share main t active root))
root_opened surplus t active root = root

-- an active leaf's: it gains its due (R130)
unfoldable pub opened_leaf : Kind → Tree → ℕ → List Account → ℕ → Account
opened_leaf kind t active accounts i = took_quota (account_of accounts i) (due kind t active accounts i)

-- an active inner class's: R and its due join its balance, which falls by what it hands down (R128, R131)
unfoldable pub opened_inner : Kind → Tree → ℕ → List Account → ℕ → Account
opened_inner kind t active accounts i =
    handed_down (took_quota (account_of accounts i) (due kind t active accounts i)) (hands_down kind t active accounts i)

-- every other account stays (R132)
unfoldable pub opened_account : Kind → Tree → ℕ → List Account → ℕ → Account
opened_account kind t active accounts i =
    cond (eqb i 0) (root_opened kind t active (account_of accounts 0))
    (cond (has active i)
    (cond (is_leaf t i) (opened_leaf kind t active accounts i) (opened_inner kind t active accounts i))
    (account_of accounts i))

-- all accounts after the opening (R132, R133)
unfoldable pub opened_accounts : Kind → Tree → ℕ → List Account → List Account
opened_accounts kind t active accounts = table (opened_account kind t active accounts) 64

-- the kind of the round that opens on a state (R125)
unfoldable pub next_kind : State → Kind
next_kind s = kind_of s.tree (round_active s) s.round.accounts

-- the size in force when it has opened (R229)
unfoldable pub next_size : State → ℕ
next_size s = size_in (next_kind s) s.tree (round_active s) s.round.size.0

-- the accounts that it shares out with this size in force (R230)
unfoldable pub resized_accounts : ℕ → State → List Account
resized_accounts size s = resized (next_kind s) s.round.size.0 size s.round.accounts

-- the state when the round has opened with this size in force: the place becomes 1 (R133, R134, R229)
unfoldable pub opened_with : ℕ → State → State
opened_with size s =
    in_round s (round_of size (round_active s) 1 (opened_accounts (next_kind s) s.tree (round_active s) (resized_accounts size s)))

-- and with the size that the tree's rule gives (R133, R134)
abbrev pub opened : State → State
opened s = opened_with (next_size s) s

-- a size that a round may open with: never above rule 1's; in a main round at least rule 2's, in a surplus round the one in force. What is
-- said of an opening holds for each such size, and the tree's rule gives one of them (`next_resizes`, proofs/Resized) (R233)
pub record Resizes (s : State) (size : ℕ) : Type 0 where
  pub right : SizeRight s.tree size
  pub low : next_kind s ≡ main → active_size s.tree (round_active s) ≤ size
  pub kept : next_kind s ≡ surplus → size ≡ s.round.size.0

-- the root can take the difference: B + R + new is not below old (at every closing, `never_below`, proofs/Resized) (R231)
abbrev pub Covers : State → ℕ → Type 0
Covers s size = next_kind s ≡ main → s.round.size.0 ≤ funds_of (account_of s.round.accounts 0) + size

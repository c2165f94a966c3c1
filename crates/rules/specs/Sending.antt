-- A send on a sound state (R135 to R146). Demand 2.
use Rattle.std.specs.Prelude.{Bool, true, false, cond, ◌&&◌, List, [], ◌∷◌, ◌++◌, ℕ, zero, suc, ◌+◌, ◌-◌, eqb, leb, ltb, length, get_or, set, drop}
use Rattle.sets.specs.Set.{has, without}
use Rattle.units.specs.Cost.{cost_of}
use Rattle.tree.specs.declared.Tree.{Tree}
use Rattle.tree.specs.Class.{parent_of, is_leaf}
use Rattle.tree.specs.Sum.{some_to}
use Rattle.state.specs.declared.Account.{Account}
use Rattle.state.specs.declared.Waiting.{Waiting}
use Rattle.state.specs.Account.{account_of, balance_of, funds_of, sent_from, gained, returned, received}
use Rattle.state.specs.Queue.{no_packet}
use Rattle.state.specs.State.{State, queue_at, with_queue, with_charge, round_of, in_round}
use Rattle.rules.specs.Active.{active_child, round_active}
use Rattle.rules.specs.Opening.{Kind, next_kind, next_size, resized_accounts, quota, opened}

-- the first packet of class i (R136)
abbrev pub first_of : State → ℕ → Waiting
first_of s i = get_or (queue_at s i) 0 no_packet

-- class i is an active leaf whose balance covers its first packet (R16, R136)
unfoldable pub ready : State → ℕ → Bool
ready s i = has s.round.active i && is_leaf s.tree i && leb (cost_of (first_of s i).length) (balance_of s.round.accounts i)

-- the first of the n numbers from p on for which f holds, or the number after them (R135)
unfoldable pub first_from : (ℕ → Bool) → ℕ → ℕ → ℕ
first_from f zero p = p
first_from f (suc n) p = elim (f p) [ true ↦ p | false ↦ first_from f n (suc p) ]

-- step 1: the lowest-numbered active leaf not below the place whose balance covers its first packet; 64 where the round has closed (R136)
unfoldable pub next_leaf : State → ℕ
next_leaf s = first_from (ready s) (64 - s.round.place) s.round.place

-- class i is an active leaf (R135)
unfoldable pub active_leaf : State → ℕ → Bool
active_leaf s i = has s.round.active i && is_leaf s.tree i

-- its balance covers its first packet (R16, R136)
unfoldable pub covers : State → ℕ → Bool
covers s i = leb (cost_of (first_of s i).length) (balance_of s.round.accounts i)

-- the same step visit by visit from a place on: find the lowest-numbered active leaf not below the place. If its balance covers its first
-- packet, it sends. Otherwise the place becomes the leaf plus 1 and the search goes on. n is as many visits as there can be (R135, R137;
-- `visits_next`).
unfoldable pub visits : ℕ → State → ℕ → ℕ
visits zero s place = 64
visits (suc n) s place =
    let i = first_from (active_leaf s) (64 - place) place in
    elim (ltb i 64) [ true ↦ elim (covers s i) [ true ↦ i | false ↦ visits n s (i + 1) ] | false ↦ 64 ]

-- what a send changes beside the queues and the place: who is active, and the accounts
pub record Books : Type 0 where
  pub active : ℕ
  pub accounts : List Account

-- class i turns inactive and gives what it holds to its parent's residual (R141, R142)
unfoldable pub given_up : Tree → ℕ → Books → Books
given_up t i b =
    let p = parent_of t i in
    let funds = funds_of (account_of b.accounts i) in
    let rest = set b.accounts i (returned (account_of b.accounts i)) in
    record { active = without b.active i; accounts = set rest p (received (account_of rest p) funds) }

-- the root turns inactive with its last active child and keeps its account (R143)
abbrev pub root_off : Books → Books
root_off b = record { active = without b.active 0; accounts = b.accounts }

-- step 2: a class turns inactive, and so does each class above that has no active child left; n is as many steps up as there can be
-- (R140, R142, R143)
unfoldable pub turns_off : ℕ → Tree → ℕ → Books → Books
turns_off zero t i b = b
turns_off (suc n) t i b =
    let p = parent_of t i in
    let after = given_up t i b in
    elim (some_to (active_child t after.active p) t.count) [
      | true ↦ after
      | false ↦ elim (eqb p 0) [ true ↦ root_off after | false ↦ turns_off n t p after ]
    ]

-- leaf i loses what a packet costs, the root's balance gains it (R138)
abbrev pub paid_by : List Account → ℕ → ℕ → List Account
paid_by accounts i cost =
    let less = set accounts i (sent_from (account_of accounts i) cost) in
    set less 0 (gained (account_of less 0) cost)

-- it pays for its first packet (R16, R138)
unfoldable pub paid : State → ℕ → List Account
paid s i = paid_by s.round.accounts i (cost_of (first_of s i).length)

-- the books when leaf i has sent its first packet: if that was its last, the leaf turns inactive at once (R140)
unfoldable pub books_after : State → ℕ → Books
books_after s i =
    let b : Books = record { active = s.round.active; accounts = paid s i } in
    cond (leb (length (queue_at s i)) 1) (turns_off 63 s.tree i b) b

-- leaf i sends its first packet, and the place becomes that leaf (R139); the packet's charge joins the running total (R310)
unfoldable pub sent_state : State → ℕ → State
sent_state s i =
    let b = books_after s i in
    let went = in_round s (round_of s.round.size.0 b.active i b.accounts) in
    with_queue (with_charge went (cost_of (first_of s i).length)) i (drop 1 (queue_at s i))

-- the state in which a round closed, and the round that opened in its place: its kind, the size in force, the quotas, and the accounts
-- after the opening (R145, R146, R235)
pub record Turn : Type 0 where
  pub closed : State
  pub kind : Kind
  pub size : ℕ
  pub quotas : ℕ → ℕ
  pub after : List Account

unfoldable pub turn_of : State → Turn
turn_of s = record {
  closed = s;
  kind = next_kind s;
  size = next_size s;
  quotas = quota (next_kind s) s.tree (round_active s) (resized_accounts (next_size s) s);
  after = (opened s).round.accounts;
}

-- the trace of a send: the rounds closed and opened in the call, then the packet (R146)
pub record Trace : Type 0 where
  pub turns : List Turn
  pub class : ℕ
  pub packet : Waiting
  pub state : State

-- a leaf sends, or the round has closed and a new one is opened in the same call; n is more openings than there can be (R145, R146)
unfoldable pub sends : ℕ → List Turn → State → Trace
sends zero turns s = record { turns = turns; class = next_leaf s; packet = first_of s (next_leaf s); state = sent_state s (next_leaf s) }
sends (suc n) turns s =
    let i = next_leaf s in
    elim (ltb i 64) [
      | true ↦ record { turns = turns; class = i; packet = first_of s i; state = sent_state s i }
      | false ↦ sends n (turns ++ (turn_of s ∷ [])) (opened s)
    ]

-- the trace of a whole send (R146, R199)
unfoldable pub trace_of : State → Trace
trace_of s = sends 64 [] s

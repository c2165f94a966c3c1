-- What a run gives: the reader's answer to some bytes, then what the library answers to each call, whatever meets the calls' contracts.
-- It is read off the one run (calls/specs/Run). Demands 1 and 2.
use Rattle.checks.specs.Check.{Verdict}
use Rattle.std.specs.Prelude.{true, cond, List, [], ◌∷◌, ◌++◌, map, ◌≡◌, ℕ, zero, suc, take, drop, Ok, Err}
use Rattle.sets.specs.Set.{has}
use Rattle.tree.specs.Size.{round_size}
use Rattle.plan.specs.declared.PlanRead.{PlanRead}
use Rattle.plan.specs.Reader.{plan_of}
use Rattle.state.specs.declared.Account.{Account}
use Rattle.state.specs.declared.Link.{Link}
use Rattle.state.specs.Account.{balance_of, residual_of}
use Rattle.tree.specs.Sum.{table}
use Rattle.state.specs.State.{meaning}
use Rattle.rules.specs.Opening.{Kind}
use Rattle.rules.specs.Sending.{Turn}
use Rattle.calls.specs.declared.AfterFresh.{AfterFresh}
use Rattle.calls.specs.Fresh.{MakesFresh}
use Rattle.calls.specs.Run.{Call, send, Answer, Made, made, call_of, run_of, closed_in, waiting_in, Run}

-- what the reader says: its verdict, the bytes used, the classes, and Q
pub record Read : Type 0 where
  pub verdict : Verdict
  pub used : ℕ
  pub classes : ℕ
  pub size : ℕ

unfoldable pub read_of : PlanRead → Read
read_of r = record { verdict = r.verdict; used = r.used; classes = r.tree.count; size = round_size r.tree }

-- ---- a look at a link, between calls

-- at the round with this number of those that the next send opens (0 is its first), at who is active and the accounts, or at how many
-- packets still wait
pub data Look : Type 0 where
  opening : ℕ → Look
  show : Look
  end : Look

-- balance and residual of each of the 64 class numbers, from the root on
pub record Accounts : Type 0 where
  pub B : List ℕ
  pub R : List ℕ

-- a round opened in a send: the accounts when the last one closed, the kind, the size in force, the quotas of class 0 and of class 1, the
-- accounts after the opening
pub record OpenedRound : Type 0 where
  pub closed : Accounts
  pub kind : Kind
  pub size : ℕ
  pub quotas : List ℕ
  pub after : Accounts

-- the active classes and the accounts
pub record Shown : Type 0 where
  pub active : List ℕ
  pub accounts : Accounts

-- what is seen: a round, where there is one; who is active and the accounts; the packets still waiting
abbrev pub Seen : Look → Type 0
Seen (opening k) = List OpenedRound
Seen show = Shown
Seen end = ℕ

unfoldable pub accounts_of : List Account → Accounts
accounts_of accounts = record { B = table (balance_of accounts) 64; R = table (residual_of accounts) 64 }

unfoldable pub opening_of : Turn → OpenedRound
opening_of turn = record {
  closed = accounts_of turn.closed.round.accounts;
  kind = turn.kind;
  size = turn.size;
  quotas = turn.quotas 0 ∷ turn.quotas 1 ∷ [];
  after = accounts_of turn.after;
}

-- the classes of a set, of those numbered below n
unfoldable pub classes_in : ℕ → ℕ → List ℕ
classes_in s zero = []
classes_in s (suc n) = classes_in s n ++ cond (has s n) (n ∷ []) []

abbrev pub seen : (look : Look) → Link → Seen look
seen (opening k) l = map opening_of (take 1 (drop k (closed_in (run_of true l (send ∷ [])))))
seen show l = record { active = classes_in l.round.active 64; accounts = accounts_of l.round.accounts }
seen end l = waiting_in (meaning l)

-- ---- a run

-- what is asked, a call or a look, and what that gives
pub data Ask : Type 0 where
  call : Call → Ask
  look : Look → Ask

abbrev pub Reply : Ask → Type 0
Reply (call c) = Answer c
Reply (look k) = Seen k

-- an exchange of an entry: what is asked, and what it is to give
infix 68 ◌⟶◌
pub data Exchange : Type 0 where
  ◌⟶◌ : (ask : Ask) → Reply ask → Exchange

-- the calls that are asked
unfoldable pub calls_in : List Exchange → List Call
calls_in [] = []
calls_in (call c ⟶ answer ∷ rest) = c ∷ calls_in rest
calls_in (look k ⟶ this ∷ rest) = calls_in rest

-- the same exchanges as a run from a link gives them
unfoldable pub exchanges_of : List Exchange → Link → List Made → List Exchange
exchanges_of [] l run = []
exchanges_of (look k ⟶ this ∷ rest) l run = look k ⟶ seen k l ∷ exchanges_of rest l run
exchanges_of (call c ⟶ answer ∷ rest) l [] = []
exchanges_of (call c ⟶ answer ∷ rest) l (made d found after ∷ run) = call d ⟶ found ∷ exchanges_of rest after run

-- every run of the library with these calls gives these exchanges
abbrev pub Follows : Link → List Exchange → Type 0
Follows l exchanges = (run : List Made) → Run l run → map call_of run ≡ calls_in exchanges → exchanges_of exchanges l run ≡ exchanges

-- on the fresh link of an accepted plan; of a refused plan no link is made, and there are no exchanges
abbrev pub Runs : Verdict → PlanRead → List Exchange → Type 0
Runs (Ok _) read exchanges = (fresh : AfterFresh) → MakesFresh read.tree fresh → Follows fresh.link exchanges
Runs (Err _) read exchanges = exchanges ≡ []

-- an entry: the input, what the reader is to say of it, and its exchanges
pub record Entry : Type 0 where
  pub input : List ℕ
  pub read : Read
  pub exchanges : List Exchange

-- the reader says so, and so does every run of the library
pub record Right (e : Entry) : Type 0 where
  pub reads : read_of (plan_of e.input) ≡ e.read
  pub runs : Runs (plan_of e.input).verdict (plan_of e.input) e.exchanges

-- every entry of a table is right
pub data AllRight : List Entry → Type 0 where
  none : AllRight []
  more : {e : Entry} {es : List Entry} → Right e → AllRight es → AllRight (e ∷ es)

-- The four reasons why a leaf sends nothing (R207 to R210), each of a state and a leaf. In a sound state exactly one is true: `exactly_one`
-- (proofs/OneReason). Demand 2.
use Rattle.std.specs.Prelude.{true, false, ◌≡◌, ℕ, ◌+◌, ◌≤◌, ◌<◌, length}
use Rattle.sets.specs.Set.{has}
use Rattle.units.specs.Cost.{cost_of}
use Rattle.state.specs.Account.{balance_of}
use Rattle.state.specs.State.{State, queue_at}
use Rattle.rules.specs.Sending.{first_of}
use Rattle.reasons.specs.declared.Reason.{Reason}
use Rattle.reasons.specs.declared.Reason.TheVariants.{Empty, Waits, Short, Due}

-- it holds no packet (R207)
pub record HoldsNone (s : State) (i : ℕ) : Type 0 where
  pub none : length (queue_at s i) ≡ 0

-- it holds some but is not in this round (R208)
pub record NotInRound (s : State) (i : ℕ) : Type 0 where
  pub some : 1 ≤ length (queue_at s i)
  pub out : has s.round.active i ≡ false

-- it is in the round, numbered below the place, and lacks n bytes, at least one, of what its first packet is charged (R16, R209)
pub record Lacks (s : State) (i n : ℕ) : Type 0 where
  pub in_round_lem : has s.round.active i ≡ true
  pub below : i < s.round.place
  pub some : 1 ≤ n
  pub exact : balance_of s.round.accounts i + n ≡ cost_of (first_of s i).length

-- it is in the round, and its visit is under way or still to come: its number is the place or above it (R210)
pub record StillDue (s : State) (i : ℕ) : Type 0 where
  pub in_round_lem : has s.round.active i ≡ true
  pub ahead : s.round.place ≤ i

-- a reason is true of leaf i (R207 to R210)
abbrev pub IsTrue : State → ℕ → Reason → Type 0
IsTrue s i Empty = HoldsNone s i
IsTrue s i Waits = NotInRound s i
IsTrue s i (Short n) = Lacks s i n.0
IsTrue s i Due = StillDue s i

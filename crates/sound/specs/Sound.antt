-- When a state is sound (R101 to R115): one definition for each clause, in the order of the rules. Demands 1 to 3.
use Rattle.std.specs.Prelude.{◌≡◌, ℕ, ◌+◌, ◌^◌, ◌<◌, ◌≤◌, true, false, List, length, get_or, slice_index_or}
use Rattle.sets.specs.Set.{has}
use Rattle.units.specs.Cost.{cost_of}
use Rattle.tree.specs.declared.Tree.{Tree}
use Rattle.tree.specs.Class.{longest_of, is_leaf}
use Rattle.tree.specs.Rules.{PlanRules}
use Rattle.tree.specs.Size.{SizeRight}
use Rattle.tree.specs.Sum.{sum_to}
use Rattle.state.specs.declared.Account.{Account}
use Rattle.state.specs.declared.Link.{Link}
use Rattle.state.specs.declared.Waiting.{Waiting}
use Rattle.state.specs.Account.{account_of, balance_of, residual_of, funds_of}
use Rattle.state.specs.Queue.{no_packet, start_of}
use Rattle.state.specs.State.{State, meaning, queue_at, TotalsRight}
use Rattle.tree.specs.Below.{Below, Above}

-- its tree obeys the plan rules, and its size is one that may be in force (R101, R102)
pub record TreeFits (s : State) : Type 0 where
  pub tree : PlanRules s.tree
  pub size : SizeRight s.tree s.round.size.0

-- a packet is within the range of class i (R17, R104)
pub record InRange (t : Tree) (i : ℕ) (p : Waiting) : Type 0 where
  pub low : 1 ≤ p.length
  pub high : p.length ≤ longest_of t i

-- each leaf holds 0 to 32 packets, each within its range, and no other class holds any (R103 to R105)
pub record HoldsRight (s : State) (i : ℕ) : Type 0 where
  pub few : is_leaf s.tree i ≡ true → length (queue_at s i) ≤ 32
  pub range : is_leaf s.tree i ≡ true → (j : ℕ) → j < length (queue_at s i) → InRange s.tree i (slice_index_or (queue_at s i) j no_packet)
  pub other : is_leaf s.tree i ≡ false → length (queue_at s i) ≡ 0

-- active leaves hold a packet (R106)
pub record ActiveHolds (s : State) (i : ℕ) : Type 0 where
  pub waits : is_leaf s.tree i ≡ true → has s.round.active i ≡ true → 1 ≤ length (queue_at s i)

-- any start kept for a queue is 0 to 31 (R107)
pub record StartRight (l : Link) (i : ℕ) : Type 0 where
  pub start : start_of l i ≤ 31

-- no number past the last class is active, nor any that has no place in a 64-bit number (R108)
pub record NonePast (s : State) : Type 0 where
  pub word : s.round.active < 2 ^ 64
  pub past : (i : ℕ) → s.tree.count < i → has s.round.active i ≡ false

-- an active leaf is below class i (R109)
pub record ActiveLeafBelow (t : Tree) (active i : ℕ) : Type 0 where
  pub leaf : ℕ
  pub is_leaf : is_leaf t leaf ≡ true
  pub is_active : has active leaf ≡ true
  pub below : Below t i leaf

-- a class above is active exactly when an active leaf is below it (R109)
pub record AboveActive (s : State) (i : ℕ) : Type 0 where
  pub leaf_below_lem : Above s.tree i → has s.round.active i ≡ true → ActiveLeafBelow s.tree s.round.active i
  pub active : Above s.tree i → ActiveLeafBelow s.tree s.round.active i → has s.round.active i ≡ true

-- every inactive class except the root has B = R = 0, and leaves have R = 0; so have numbers past the last class, which are never active
-- (R35, R110, R111)
pub record ZeroWhere (s : State) (i : ℕ) : Type 0 where
  pub balance : 1 ≤ i → has s.round.active i ≡ false → balance_of s.round.accounts i ≡ 0
  pub residual : 1 ≤ i → has s.round.active i ≡ false → residual_of s.round.accounts i ≡ 0
  pub leaf : is_leaf s.tree i ≡ true → residual_of s.round.accounts i ≡ 0

-- all B and R, of the root and of the classes 1 to 63 (R112)
unfoldable pub total : List Account → ℕ
total xs = funds_of (account_of xs 0) + sum_to (λ i. funds_of (account_of xs i)) 63

-- all B and R add to the size in force (R112)
pub record AddsUp (s : State) : Type 0 where
  pub adds : total s.round.accounts ≡ s.round.size.0

-- the place is 1 to 64 (R113)
pub record PlaceRight (s : State) : Type 0 where
  pub low : 1 ≤ s.round.place
  pub high : s.round.place ≤ 64

-- every active leaf numbered below the place has a balance smaller than its first packet (R16, R114)
pub record BehindPlace (s : State) (i : ℕ) : Type 0 where
  pub lacks : is_leaf s.tree i ≡ true → has s.round.active i ≡ true → i < s.round.place
      → balance_of s.round.accounts i < cost_of (get_or (queue_at s i) 0 no_packet).length

-- a state is sound when all of this holds, and its totals are right (R115, R278)
pub record Sound (s : State) : Type 0 where
  pub fits : TreeFits s
  pub holds : (i : ℕ) → i < 64 → HoldsRight s i
  pub waiting : (i : ℕ) → i < 64 → ActiveHolds s i
  pub past : NonePast s
  pub above : (i : ℕ) → i < 64 → AboveActive s i
  pub zero : (i : ℕ) → i < 64 → ZeroWhere s i
  pub adds : AddsUp s
  pub place : PlaceRight s
  pub behind : (i : ℕ) → i < 64 → BehindPlace s i
  pub totals : (i : ℕ) → i < 64 → TotalsRight s i

-- and of a link, that any start kept for a queue is 0 to 31 (R115)
pub record SoundLink (l : Link) : Type 0 where
  pub state : Sound (meaning l)
  pub starts : (i : ℕ) → i < 64 → StartRight l i

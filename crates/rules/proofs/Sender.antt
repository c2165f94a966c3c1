-- The leaf that sends next (R135, R136), as soundness has it. Demand 2.
use mathlib.Core.Bool.{true, false, ◌&&◌}
use mathlib.Core.Path.{◌≡◌}
use Prim.Native.Nat.{ℕ, ◌+◌, ◌-◌, ◌≤◌, ◌<◌}
use native.Mathlib.Decide.{dec_le}
use native.Mathlib.Omega.{arith}
use lib.Dec.{leb}
use lib.ListN.{length}
use borrow.Author.Tests.{leb-true, leb-false}
use Rattle.checks.proofs.Laws.{not_true_and_false}
use Rattle.sets.specs.Set.{has}
use Rattle.units.specs.Cost.{cost_of}
use Rattle.tree.specs.Class.{is_class, is_leaf}
use Rattle.tree.proofs.Classes.{both_true, class_in_lem}
use Rattle.state.specs.Account.{balance_of}
use Rattle.state.specs.State.{State, queue_at}
use Rattle.sound.specs.Sound.{Sound}
use Rattle.rules.specs.Sending.{first_of, ready, first_from, next_leaf}
use Rattle.rules.proofs.Searches.{first_range, first_least, first_holds}

-- an active leaf whose balance covers its first packet, and nothing less
pub ready_parts : (s : State) (i : ℕ) → ready s i ≡ true
    → (has s.round.active i ≡ true) × (is_leaf s.tree i ≡ true) × (cost_of (first_of s i).length ≤ balance_of s.round.accounts i)
unfolding ready
ready_parts s i e =
    let w = both_true (has s.round.active i && is_leaf s.tree i)
    (leb (cost_of (first_of s i).length) (balance_of s.round.accounts i)) e in
    let v = both_true (has s.round.active i) (is_leaf s.tree i) w.0 in
    (v.0, v.1, leb-true (cost_of (first_of s i).length) (balance_of s.round.accounts i) w.1)

pub ready_lacks : (s : State) (i : ℕ) → ready s i ≡ false → has s.round.active i ≡ true → is_leaf s.tree i ≡ true
    → balance_of s.round.accounts i < cost_of (first_of s i).length
unfolding ready
ready_lacks s i e a f = leb-false (cost_of (first_of s i).length) (balance_of s.round.accounts i) (rw (a, f) at e)

-- the class with a number is the next to send
pub record Sender (s : State) (i : ℕ) : Type 0 where
  pub is_ready : ready s i ≡ true
  pub class : is_class s.tree i ≡ true
  pub low : 1 ≤ i
  pub high : i < 64
  pub leaf : is_leaf s.tree i ≡ true
  pub active : has s.round.active i ≡ true
  pub holds : 1 ≤ length (queue_at s i)
  pub covers : cost_of (first_of s i).length ≤ balance_of s.round.accounts i
  pub onward : s.round.place ≤ i
  pub passed : (k : ℕ) → s.round.place ≤ k → k < i → ready s k ≡ false

-- where the search finds a leaf, its balance covers its first packet
pub next_ready : (s : State) → Sound s → next_leaf s < 64 → ready s (next_leaf s) ≡ true
unfolding next_leaf
next_ready s sound u = first_holds (ready s) (64 - s.round.place) s.round.place (omega (arith, sound.place.high))

pub next_sender : (s : State) → Sound s → next_leaf s < 64 → Sender s (next_leaf s)
unfolding next_leaf
next_sender s sound u = record {
  is_ready = next_ready s sound u;
  class = class_in_lem s.tree i low (last (dec_le i s.tree.count));
  low = low;
  high = u;
  leaf = parts.1;
  active = parts.0;
  holds = (sound.waiting i u).waits parts.1 parts.0;
  covers = parts.2;
  onward = range.0;
  passed = λ k l v. first_least (ready s) (64 - s.round.place) s.round.place k l v;
}
  where
    i : ℕ
    i = first_from (ready s) (64 - s.round.place) s.round.place

    parts : (has s.round.active i ≡ true) × (is_leaf s.tree i ≡ true)
        × (cost_of (first_of s i).length ≤ balance_of s.round.accounts i)
    parts = ready_parts s i (next_ready s sound u)

    range : (s.round.place ≤ i) × (i ≤ s.round.place + (64 - s.round.place))
    range = first_range (ready s) (64 - s.round.place) s.round.place

    low : 1 ≤ i
    low = omega (arith, range.0, sound.place.low)

    last : Dec (i ≤ s.tree.count) → i ≤ s.tree.count
    last (yes l) = l
    last (no l) = absurd (not_true_and_false parts.0 (sound.past.past i (omega arith)))

-- every active leaf before it has a balance smaller than its first packet
pub before_lacks : (s : State) (i : ℕ) → Sound s → Sender s i → (k : ℕ) → k < 64 → is_leaf s.tree k ≡ true
    → has s.round.active k ≡ true
    → k < i
    → balance_of s.round.accounts k < cost_of (first_of s k).length
before_lacks s i sound is k u f a l = go (dec_le s.round.place k)
  where
    go : Dec (s.round.place ≤ k) → balance_of s.round.accounts k < cost_of (first_of s k).length
    go (yes p) = ready_lacks s k (is.passed k p l) a f
    go (no p) = (sound.behind k u).lacks f a (omega arith)

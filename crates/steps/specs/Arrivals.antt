-- What the steps of an arrival say; no rule of its own.
use Rattle.std.specs.Prelude.{Bool, true, List, ◌≡◌, ℕ, ◌<◌, length, Ok}
use Rattle.checks.specs.Check.{first_broken, Verdict}
use Rattle.tree.specs.Class.{longest_of, is_leaf}
use Rattle.state.specs.declared.Link.{Link}
use Rattle.state.specs.declared.Packet.{Packet}
use Rattle.state.specs.declared.Totals.{Totals}
use Rattle.state.specs.Queue.{queued, with_totals}
use Rattle.sound.specs.Sound.{SoundLink}
use Rattle.state.specs.State.{State, queue_at}
use Rattle.calls.specs.declared.Arrival.{Arrival}
use Rattle.calls.specs.Arrival.{arrival_checks, arrival_leaves, arrival_of}

-- the verdict on a packet of length n for a leaf of a sound state that has this longest packet and holds so many; one that passes finds
-- room
pub record JudgesLeaf (class n longest held : ℕ) (r : Verdict) : Type 0 where
  pub verdict : (s : State) (p : Packet) → is_leaf s.tree class ≡ true → p.length ≡ n → longest_of s.tree class ≡ longest
      → length (queue_at s class) ≡ held → r ≡ first_broken (arrival_checks true s class p)
  pub room : r ≡ Ok tt → held < 32

-- the link with these queues and totals
abbrev pub lent_waiting : Link → List ℕ → List ℕ → List ℕ → List ℕ → List ℕ → Totals → Link
lent_waiting l start held lengths tags marks totals = with_totals (queued l start held lengths tags marks) totals

-- a link that an arrival may be taken on: it is sound, and each class number has a total
pub record TakesOn (l : Link) : Type 0 where
  pub sound : SoundLink l
  pub wide : length l.totals.bytes ≡ 64

-- an arrival on a link of which it is told whether it is sound: the answer and the link after it are those of the call
abbrev pub ArrivesOn : Bool → Link → ℕ → Packet → Arrival → Link → Type 0
ArrivesOn sound l class p answer after = arrival_leaves answer after ≡ arrival_of sound l class p

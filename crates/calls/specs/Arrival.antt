-- An arrival on any link record (R153 to R158, R162). Demands 1 and 2.
use Rattle.checks.specs.declared.Refusal.TheVariants.{NotSound, NoLeaf, BadLength, Full}
use Rattle.std.specs.Prelude.{Bool, ◌||◌, not, List, [], ◌∷◌, ◌++◌, ◌≡◌, ℕ, leb, ltb, length, Ok, Err}
use Rattle.checks.specs.Check.{Check, check, first_broken, Exactly, Verdict}
use Rattle.tree.specs.Class.{longest_of, is_leaf}
use Rattle.state.specs.declared.Link.{Link}
use Rattle.state.specs.declared.Packet.{Packet}
use Rattle.state.specs.Mark.{marked_with}
use Rattle.state.specs.Queue.{Shaped, bytes_in, put_last}
use Rattle.state.specs.State.{State, meaning, queue_at, with_queue}
use Rattle.sound.specs.Sound.{SoundLink}
use Rattle.calls.specs.declared.Arrival.{Arrival}
use Rattle.calls.specs.declared.AfterArrival.{AfterArrival}

-- 12: the class is not a leaf of the plan (R154)
unfoldable pub no_leaf : State → ℕ → Bool
no_leaf s class = not (is_leaf s.tree class)

-- 13: length 0 or above the leaf's longest (R17, R155)
unfoldable pub bad_length : State → ℕ → Packet → Bool
bad_length s class p = ltb p.length 1 || ltb (longest_of s.tree class) p.length

-- 14: that leaf already holds 32 packets (R156)
unfoldable pub full : State → ℕ → Bool
full s class = leb 32 (length (queue_at s class))

-- an arrival is checked in the order 11, 12, 13, 14; 11 at 0, the others at the class (R153 to R157)
abbrev pub arrival_checks : Bool → State → ℕ → Packet → List Check
arrival_checks sound s class p =
    check NotSound (not sound) 0 ∷ check NoLeaf (no_leaf s class) class ∷ check BadLength (bad_length s class p) class ∷ check Full (full s class) class ∷ []

-- an accepted packet waits last in its leaf's queue, marked with the running total, and nothing else changes: not even the active set
-- (R144, R158, R309)
abbrev pub arrived : State → ℕ → Packet → State
arrived s class p = with_queue s class (queue_at s class ++ (marked_with s.totals.charged p ∷ []))

-- the charged bytes that wait in that leaf then, the new packet included: demand 3's D (R201, R283)
abbrev pub bytes_after : State → ℕ → Packet → ℕ
bytes_after s class p = bytes_in (queue_at (arrived s class p) class)

-- the answer: the verdict and those bytes (R283)
abbrev pub arrival_answer : Verdict → ℕ → Arrival
arrival_answer verdict bytes = record { verdict = verdict; bytes = record { 0 = bytes } }

-- an answer and the link after it (R164)
abbrev pub arrival_leaves : Arrival → Link → AfterArrival
arrival_leaves answer link = record { answer = answer; link = link }

-- a refused arrival gives the very same record, and 0 bytes; an accepted one puts the packet last (R158, R162, R163, R197, R283; `put_last`
-- means `arrived`: proofs/Arrivals)
abbrev pub arrival_gives : Verdict → Link → ℕ → Packet → AfterArrival
arrival_gives (Ok _) l class p =
    arrival_leaves (arrival_answer (Ok tt) (bytes_after (meaning l) class p)) (put_last l class (marked_with l.totals.charged p))
arrival_gives (Err e) l class p = arrival_leaves (arrival_answer (Err e) 0) l

unfoldable pub arrival_of : Bool → Link → ℕ → Packet → AfterArrival
arrival_of sound l class p = arrival_gives (first_broken (arrival_checks sound (meaning l) class p)) l class p

-- what an arrival on any record gives; on a sound one it gives a sound one (R116). A record's lists have the lengths of its arrays.
pub record Arrives (l : Link) (class : ℕ) (p : Packet) (r : AfterArrival) : Type 0 where
  pub shape : Shaped l
  pub sound : Bool
  pub exactly : Exactly sound (SoundLink l)
  pub answer : r ≡ arrival_of sound l class p
  pub keeps : SoundLink l → SoundLink r.link

-- The packet that is followed stays the same packet: arrivals wait behind it, a send takes the first of its class's queue, and what goes
-- is that packet. Demand 3.
use mathlib.Core.List.{List, [], ◌∷◌, ◌++◌}
use mathlib.Core.Path.{◌≡◌, refl, sym, ap, subst, ◌∙◌}
use Prim.Native.Nat.{ℕ, suc, ◌+◌, ◌<◌}
use native.Mathlib.Decide.{ℕ_discrete}
use native.Mathlib.Omega.{arith}
use lib.ListN.{length, get_or, get_or-append}
use lib.Seq.{get_or_at, get_or-drop}
use Rattle.state.specs.declared.Packet.{Packet}
use Rattle.state.specs.declared.Waiting.{Waiting}
use Rattle.units.specs.Cost.{cost_of}
use Rattle.state.specs.Mark.{marked_with, wrapped}
use Rattle.state.specs.Queue.{no_packet}
use Rattle.state.specs.State.{State, queue_at}
use Rattle.rules.specs.Sending.{first_of, next_leaf, sent_state, Turn, Trace, trace_of}
use Rattle.rules.specs.Wide.{Wide}
use Rattle.rules.proofs.Rounds.{two_rounds_lem}
use Rattle.rules.proofs.Sent.{sent_queue, sent_other}
use Rattle.calls.specs.Arrival.{arrived}
use Rattle.calls.proofs.Arrivals.{queue_arrived, queue_other}
use Rattle.wait.proofs.Credit.{Holds, holds_some_lem}

-- the packet of class i with k packets before it
abbrev pub packet_behind : State → ℕ → ℕ → Waiting
packet_behind s i k = get_or (queue_at s i) k no_packet

-- an accepted packet has before it those that waited there
pub accepted_last : (s : State) (i : ℕ) (p : Packet) → Wide s → i < 64 → packet_behind (arrived s i p) i (length (queue_at s i))
    ≡ marked_with s.totals.charged p
accepted_last s i p wide u =
    ap (λ (q : List Waiting). get_or q (length (queue_at s i)) no_packet) (queue_arrived s i p (omega (arith, wide.queues)))
    ∙ get_or_at (queue_at s i) (marked_with s.totals.charged p) [] no_packet (length (queue_at s i)) refl

-- an arrival waits behind it, or elsewhere
pub arrived_packet : (s : State) (i k j : ℕ) (p : Packet) → Holds s i k → j < 64 → packet_behind (arrived s j p) i k ≡ packet_behind s i k
arrived_packet s i k j p h u = go (ℕ_discrete i j)
  where
    inside : j < length s.queues
    inside = omega (arith, h.wide.queues)

    go : Dec (i ≡ j) → packet_behind (arrived s j p) i k ≡ packet_behind s i k
    go (yes e) =
        let room : k < length (queue_at s j) = omega (arith, ap (λ (x : ℕ). length (queue_at s x)) e, h.behind) in
        rw (e, queue_arrived s j p inside) (get_or-append (queue_at s j) (marked_with s.totals.charged p ∷ []) no_packet k room)
    go (no ne) = ap (λ (q : List Waiting). get_or q k no_packet) (queue_other s j p inside i ne)

-- a send with the trace t takes the first packet of its class's queue, and leaves every other packet where it was in its queue; the charge
-- of the one that it takes joins the running total
pub record SendsFirst (s : State) (t : Trace) : Type 0 where
  pub packet : t.packet ≡ packet_behind s t.class 0
  pub own : (k : ℕ) → packet_behind t.state t.class k ≡ packet_behind s t.class (suc k)
  pub other : (i k : ℕ) → (i ≡ t.class → ⊥) → packet_behind t.state i k ≡ packet_behind s i k
  pub charged : t.state.totals.charged ≡ wrapped (s.totals.charged + cost_of t.packet.length)

-- so does the leaf that is found, whatever rounds were opened first: they leave the queues as they were
found_first : (s u : State) (turns : List Turn) → Wide u → u.queues ≡ s.queues → u.totals.charged ≡ s.totals.charged → next_leaf u < 64
    → SendsFirst s (record { turns = turns; class = next_leaf u; packet = first_of u (next_leaf u); state = sent_state u (next_leaf u) })
unfolding sent_state
found_first s u turns wide same total found = record {
  packet = at (next_leaf u) 0;
  own =
      λ k.
      ap (λ (q : List Waiting). get_or q k no_packet) (sent_queue u (next_leaf u) wide found)
      ∙ get_or-drop 1 (queue_at u (next_leaf u)) k no_packet
      ∙ ap (λ (n : ℕ). packet_behind u (next_leaf u) n) (next k)
      ∙ at (next_leaf u) (suc k);
  other = λ i k ne. ap (λ (q : List Waiting). get_or q k no_packet) (sent_other u (next_leaf u) i ne) ∙ at i k;
  charged = ap (λ (n : ℕ). wrapped (n + cost_of (first_of u (next_leaf u)).length)) total;
}
  where
    at : (i k : ℕ) → packet_behind u i k ≡ packet_behind s i k
    at i k = ap (λ (qs : List (List Waiting)). get_or (get_or qs i []) k no_packet) same

    next : (k : ℕ) → 1 + k ≡ suc k
    next k = omega arith

pub send_in_order : (s : State) (i k : ℕ) → Holds s i k → SendsFirst s (trace_of s)
unfolding trace_of
send_in_order s i k h =
    let goes = two_rounds_lem s h.sound h.wide (holds_some_lem s i k h) in
    subst (SendsFirst s) (sym (goes.gives 62 [])) (found_first s goes.after ([] ++ goes.more) goes.wide
    (ap (λ (x : State). x.queues) goes.same) (ap (λ (x : State). x.totals.charged) goes.same) goes.leaf)

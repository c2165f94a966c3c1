-- One call while a packet waits, an arrival or a send: what is sent and the number that falls are together no more than the number was.
-- Demand 3.
use mathlib.Core.Bool.{true}
use mathlib.Core.List.{List, [], ◌∷◌, ◌++◌}
use mathlib.Core.Logic.{◌⊎◌, inl, inr}
use mathlib.Core.Path.{◌≡◌, refl, sym, ap, subst, ◌∙◌}
use Prim.Native.Nat.{ℕ, suc, ◌+◌, ◌-◌, ◌*◌, ◌≤◌, ◌<◌}
use native.Mathlib.Decide.{dec_lt, ℕ_discrete}
use native.Mathlib.Omega.{arith}
use lib.ListN.{length, take, length-set}
use lib.Seq.{take-append-le}
use borrow.Author.Tests.{le-leb}
use Rattle.checks.specs.declared.Refusal.{Refusal}
use Rattle.std.specs.Prelude.{Ok, Err}
use Rattle.checks.specs.Check.{first_broken, refusal_at}
use Rattle.checks.proofs.Laws.{refused_or_passed}
use Rattle.units.specs.Cost.{cost_of}
use Rattle.units.proofs.Laws.{cost_positive}
use Rattle.tree.specs.Class.{weight_of}
use Rattle.tree.specs.Size.{round_size}
use Rattle.tree.proofs.Classes.{class_range}
use Rattle.tree.proofs.Sums.{some_found}
use Rattle.state.specs.declared.Link.{Link}
use Rattle.state.specs.declared.Packet.{Packet}
use Rattle.state.specs.declared.Waiting.{Waiting}
use Rattle.state.specs.Account.{balance_of}
use Rattle.state.specs.Mark.{marked_with}
use Rattle.state.specs.Queue.{bytes_in}
use Rattle.state.specs.State.{State, meaning, queue_at}
use Rattle.sound.specs.Sound.{SoundLink}
use Rattle.rules.specs.Active.{waits, some_waits}
use Rattle.rules.specs.Opening.{next_size, opened}
use Rattle.rules.specs.Sending.{first_of, next_leaf, sent_state, Turn, Trace, turn_of, sends, trace_of}
use Rattle.rules.proofs.Resized.{next_resizes}
use Rattle.rules.proofs.Rounds.{leaf_most, second_sends, sends_now, sends_closed}
use Rattle.rules.proofs.Sender.{Sender, next_sender}
use Rattle.calls.specs.declared.AfterArrival.{AfterArrival}
use Rattle.calls.specs.Arrival.{arrival_checks, arrived, Arrives}
use Rattle.calls.proofs.Arrivals.{Taken, taken, taken_number, queue_arrived, queue_other, length_arrived, arrival_keeps}
use Rattle.calls.proofs.Runs.{left_refused, left_taken}
use Rattle.wait.specs.Wait.{over_rounded_up}
use Rattle.wait.proofs.Credit.{Holds, credit, bytes_up_to, lacking, mains, falling, holds_class, holds_some_lem}
use Rattle.wait.proofs.InOrder.{packet_behind, arrived_packet}
use Rattle.wait.proofs.Falls.{opened_holds, opened_falls, other_holds, other_falls, own_holds, own_falls, itself_covered}

-- ---- an arrival

-- an arrival does not touch the packets up to one that waits: it is behind it, or elsewhere
module _ (s : State) (i k j : ℕ) (p : Packet) (h : Holds s i k) (u : j < 64) where
  inside : j < length s.queues
  inside = omega (arith, h.wide.queues)

  arrived_upto : take (suc k) (queue_at (arrived s j p) i) ≡ take (suc k) (queue_at s i)
  arrived_upto = go (ℕ_discrete i j)
    where
      go : Dec (i ≡ j) → take (suc k) (queue_at (arrived s j p) i) ≡ take (suc k) (queue_at s i)
      go (yes e) =
          let room : suc k ≤ length (queue_at s j) = omega (arith, ap (λ (x : ℕ). length (queue_at s x)) e, h.behind) in
          rw (e, queue_arrived s j p inside) (take-append-le (suc k) (queue_at s j) (marked_with s.totals.charged p ∷ []) room)
      go (no ne) = ap (take (suc k)) (queue_other s j p inside i ne)

  arrived_behind : k < length (queue_at (arrived s j p) i)
  arrived_behind = go (ℕ_discrete i j)
    where
      go : Dec (i ≡ j) → k < length (queue_at (arrived s j p) i)
      go (yes e) = rw e (omega (arith, length_arrived s j p inside, ap (λ (x : ℕ). length (queue_at s x)) e, h.behind))
      go (no ne) = omega (arith, ap length (queue_other s j p inside i ne), h.behind)

  arrived_holds : Taken true s j p → Holds (arrived s j p) i k
  arrived_holds t = record {
    sound = arrival_keeps s j p u h.wide.queues h.sound t;
    wide = record {
      accounts = h.wide.accounts;
      queues = length-set s.queues j
          (queue_at s j ++ (marked_with s.totals.charged p ∷ [])) ∙ h.wide.queues;
    };
    low = h.low;
    leaf = h.leaf;
    behind = arrived_behind;
  }

  arrived_same : falling (arrived s j p) i k ≡ falling s i k
  unfolding falling credit mains lacking bytes_up_to
  arrived_same =
      ap (λ (q : List Waiting). credit s + round_size s.tree * over_rounded_up (bytes_in q - balance_of s.round.accounts i)
      (weight_of s.tree i))
      arrived_upto

-- what an arrival leaves
pub record ArrivalKeeps (s : State) (i k : ℕ) (after : State) : Type 0 where
  pub holds : Holds after i k
  pub same : falling after i k ≡ falling s i k
  pub packet : packet_behind after i k ≡ packet_behind s i k
  pub total : after.totals.charged ≡ s.totals.charged

-- whatever the arrival is, taken or refused
pub any_arrival : (l : Link) (i k j : ℕ) (p : Packet) (a : AfterArrival) → SoundLink l → Arrives l j p a → Holds (meaning l) i k
    → ArrivalKeeps (meaning l) i k (meaning a.link)
any_arrival l i k j p a sound x h = go (refused_or_passed (first_broken (arrival_checks true (meaning l) j p)))
  where
    go : (first_broken (arrival_checks true (meaning l) j p) ≡ Ok tt)
        ⊎ ((n : Refusal) × (q : ℕ) × (first_broken (arrival_checks true (meaning l) j p) ≡ Err (refusal_at n q)))
        → ArrivalKeeps (meaning l) i k (meaning a.link)
    go (inl e) =
        let u = taken_number (meaning l) j p sound.state e in
        subst (ArrivalKeeps (meaning l) i k) (sym (left_taken l j p a sound x e)) (record {
          holds = arrived_holds (meaning l) i k j p h u (taken true (meaning l) j p e);
          same = arrived_same (meaning l) i k j p h u;
          packet = arrived_packet (meaning l) i k j p h u;
          total = refl;
        })
    go (inr r) =
        subst (λ (m : Link). ArrivalKeeps (meaning l) i k (meaning m)) (sym (left_refused l j p a sound x r.2))
        (record { holds = h; same = refl; packet = refl; total = refl })

-- ---- a send

-- a packet waits, so a send sends
pub holds_waits : (s : State) (i k : ℕ) → Holds s i k → some_waits s ≡ true
unfolding some_waits waits
holds_waits s i k h =
    let r = class_range s.tree i (holds_class s i k h) in
    some_found (waits s) s.tree.count i r.0 r.1 (rw (h.leaf, le-leb 1 (length (queue_at s i)) (omega (arith, h.behind))) refl)

-- what a send with the trace t does: another class sends, or the class sends a packet before the one that is followed, or that one
pub record SendFalls (s : State) (i k : ℕ) (t : Trace) : Type 0 where
  pub costs : 1 ≤ cost_of t.packet.length
  pub other_holds : (i ≡ t.class → ⊥) → Holds t.state i k
  pub other_falls : (i ≡ t.class → ⊥) → falling t.state i k + cost_of t.packet.length ≤ falling s i k
  pub own_holds : (j : ℕ) → i ≡ t.class → k ≡ suc j → Holds t.state i j
  pub own_falls : (j : ℕ) → i ≡ t.class → k ≡ suc j → falling t.state i j + cost_of t.packet.length ≤ falling s i k
  pub itself : i ≡ t.class → cost_of t.packet.length ≤ falling s i k

-- the leaf that is found sends
now_falls : (s : State) (i k : ℕ) (turns : List Turn) → Holds s i k → next_leaf s < 64
    → SendFalls s i k (record { turns = turns; class = next_leaf s; packet = first_of s (next_leaf s); state = sent_state s (next_leaf s) })
now_falls s i k turns h found = record {
  costs = cost_positive (first_of s next).length ((h.sound.holds next is.high).range is.leaf 0 is.holds).low;
  other_holds = λ ne. other_holds s i k next h is ne;
  other_falls = λ ne. other_falls s i k next h is ne;
  own_holds = λ j e f. subst (λ (x : ℕ). Holds (sent_state s x) i j) e (own_holds s i j (subst (Holds s i) f h) (self e));
  own_falls =
      λ j e f.
      subst (λ (x : ℕ). falling (sent_state s x) i j + cost_of (first_of s x).length ≤ falling s i k) e
      (subst (λ (x : ℕ). falling (sent_state s i) i j + cost_of (first_of s i).length ≤ falling s i x) (sym f)
      (own_falls s i j (subst (Holds s i) f h) (self e)));
  itself = λ e. subst (λ (x : ℕ). cost_of (first_of s x).length ≤ falling s i k) e (itself_covered s i k h (self e));
}
  where
    next : ℕ
    next = next_leaf s

    is : Sender s (next_leaf s)
    is = next_sender s h.sound found

    self : i ≡ next_leaf s → Sender s i
    self e = subst (Sender s) (sym e) is

-- the packet still waits when a round has opened
next_holds : (s : State) (i k : ℕ) → Holds s i k → next_leaf s ≡ 64 → Holds (opened s) i k
next_holds s i k h closed = opened_holds s i k h closed (next_size s) (next_resizes s h.sound)

-- a round that opens first changes none of this
opened_first : (s : State) (i k : ℕ) (t : Trace) → Holds s i k → next_leaf s ≡ 64 → SendFalls (opened s) i k t → SendFalls s i k t
opened_first s i k t h closed f =
    let fall = opened_falls s i k h closed (next_size s) (next_resizes s h.sound) in
    record {
      costs = f.costs;
      other_holds = f.other_holds;
      other_falls = λ ne. omega (arith, fall, f.other_falls ne);
      own_holds = f.own_holds;
      own_falls = λ j e g. omega (arith, fall, f.own_falls j e g);
      itself = λ e. omega (arith, fall, f.itself e);
    }

-- so a send falls, whether it opens no round, one or two
sends_fall : (n : ℕ) (turns : List Turn) (s : State) (i k : ℕ) → Holds s i k → next_leaf s < 64 → SendFalls s i k (sends n turns s)
sends_fall n turns s i k h found = subst (SendFalls s i k) (sym (sends_now n turns s found)) (now_falls s i k turns h found)

sends_fall_opened : (n : ℕ) (turns : List Turn) (s : State) (i k : ℕ) → Holds s i k → next_leaf s ≡ 64
    → SendFalls (opened s) i k (sends n (turns ++ (turn_of s ∷ [])) (opened s)) → SendFalls s i k (sends (suc n) turns s)
sends_fall_opened n turns s i k h closed f =
    subst (SendFalls s i k) (sym (sends_closed n turns s closed))
    (opened_first s i k (sends n (turns ++ (turn_of s ∷ [])) (opened s)) h closed f)

pub send_falls : (s : State) (i k : ℕ) → Holds s i k → SendFalls s i k (trace_of s)
unfolding trace_of
send_falls s i k h = first (dec_lt (next_leaf s) 64)
  where
    second : next_leaf s ≡ 64 → (g : Holds (opened s) i k) → Dec (next_leaf (opened s) < 64) → SendFalls s i k (sends 64 [] s)
    second closed g (yes found) = sends_fall_opened 63 [] s i k h closed (sends_fall 63 (turn_of s ∷ []) (opened s) i k g found)
    second closed g (no none) =
        let again : next_leaf (opened s) ≡ 64 = omega (arith, leaf_most (opened s) g.sound) in
        let found = second_sends s h.sound h.wide (holds_some_lem s i k h) closed again in
        sends_fall_opened 63 [] s i k h closed
        (sends_fall_opened 62 (turn_of s ∷ []) (opened s) i k g again
        (sends_fall 62 (turn_of s ∷ turn_of (opened s) ∷ []) (opened (opened s)) i k (next_holds (opened s) i k g again) found))

    first : Dec (next_leaf s < 64) → SendFalls s i k (sends 64 [] s)
    first (yes found) = sends_fall 64 [] s i k h found
    first (no none) =
        let closed : next_leaf s ≡ 64 = omega (arith, leaf_most s h.sound) in
        second closed (next_holds s i k h closed) (dec_lt (next_leaf (opened s)) 64)

-- The bounded wait (R202). From the acceptance of a packet, with D bytes then in its class's queue and a class of weight w, the whole
-- link sends at most (D / w rounded up, plus 1) times Q bytes until it has gone, in whatever order later arrivals and sends come. Demand
-- 3. It speaks of the library: from any answer by which the contract accepts a packet, through any run of calls from there. Nothing is
-- asked of the caller: that the link is sound, that the class is a class number and that the record's lists have the lengths of its
-- arrays follow from the acceptance and the contract.
use mathlib.Core.Bool.{Bool, true, false}
use mathlib.Core.List.{List, [], ◌∷◌, ◌++◌}
use mathlib.Core.Path.{◌≡◌, refl, sym, ap, ap₂, subst, ◌∙◌}
use Prim.Native.Nat.{ℕ, ◌+◌, ◌^◌, ◌≤◌, ◌<◌}
use native.Mathlib.Omega.{arith}
use Rattle.std.specs.Prelude.{Ok}
use Rattle.checks.specs.Check.{first_broken}
use Rattle.state.specs.declared.Link.{Link}
use Rattle.state.specs.declared.Packet.{Packet}
use Rattle.state.specs.Mark.{marked_with, wrapped, since}
use Rattle.state.specs.Queue.{held_of, queue_of, bytes_in}
use Rattle.state.specs.State.{State, meaning, queue_at}
use Rattle.state.proofs.Marks.{since_grown}
use Rattle.state.proofs.Meaning.{meaning_queue, meaning_held}
use Rattle.sound.specs.Sound.{SoundLink}
use Rattle.rules.specs.Wide.{Wide}
use Rattle.rules.proofs.Meanings.{meaning_wide}
use Rattle.calls.specs.declared.Arrival.{Arrival}
use Rattle.calls.specs.declared.AfterArrival.{AfterArrival}
use Rattle.calls.specs.Arrival.{arrival_checks, arrived, arrival_leaves, Arrives}
use Rattle.calls.specs.Run.{arrival, Made, made, link_left, last_link, Run}
use Rattle.calls.proofs.Arrivals.{taken_number, arrives_as, arrival_verdict, accepted_sound, answered_after}
use Rattle.calls.proofs.Runs.{left_taken}
use Rattle.wait.specs.Wait.{followed, sends_in, bound_of}
use Rattle.wait.proofs.Credit.{Holds, falling}
use Rattle.wait.proofs.InOrder.{packet_behind, accepted_last}
use Rattle.wait.proofs.AnyRun.{GoneWithin, run_keeps}
use Rattle.wait.proofs.Accepted.{accepted_holds, starts_within, fits_64}

-- an arrival of packet p to class i with the answer a, that is accepted
module _ (l : Link) (i : ℕ) (p : Packet) (a : AfterArrival) (arrives : Arrives l i p a) (accepted : a.answer.verdict ≡ Ok tt) where
  pub sound : SoundLink l
  sound = accepted_sound l i p a arrives accepted

  pub passes : first_broken (arrival_checks true (meaning l) i p) ≡ Ok tt
  passes =
      sym (arrival_verdict true l i p)
      ∙ ap (λ (x : AfterArrival). x.answer.verdict) (sym (arrives_as l i p a sound arrives))
      ∙ accepted

  pub low : i < 64
  low = taken_number (meaning l) i p sound.state passes

  wide : Wide (meaning l)
  wide = meaning_wide l arrives.shape.accounts

  -- the link after it, and what waits there
  pub means : meaning a.link ≡ arrived (meaning l) i p
  means = left_taken l i p a sound arrives passes

  waiting : queue_at (arrived (meaning l) i p) i ≡ queue_of a.link i
  waiting = ap (λ (s : State). queue_at s i) (sym means) ∙ meaning_queue a.link i low

  -- the packet waits behind those that waited there, and the number that falls starts within the bound
  holds : Holds (meaning a.link) i (held_of l i)
  holds = rw (means, ← meaning_held l i low) (accepted_holds (meaning l) i p sound.state wide low passes)

  within_bound : falling (meaning a.link) i (held_of l i) ≤ bound_of l i a.answer.bytes.0
  within_bound =
      rw (means, ← meaning_held l i low, answered_after l i p a arrives accepted)
      (starts_within (meaning l) i p sound.state wide low passes)

  -- the bytes that it answered, D, are those of the packets that wait in its class's queue then (R201, R284)
  pub answered_bytes : a.answer.bytes.0 ≡ bytes_in (queue_of a.link i)
  answered_bytes = answered_after l i p a arrives accepted ∙ ap bytes_in waiting

  within : (run : List Made) → Run a.link run
      → GoneWithin (followed i (held_of l i) run) (sends_in run) (falling (meaning a.link) i (held_of l i)) a.link.totals.charged
      (marked_with l.totals.charged p)
  within run is =
      subst (GoneWithin (followed i (held_of l i) run) (sends_in run) (falling (meaning a.link) i (held_of l i)) a.link.totals.charged)
      (ap₂ (λ (s : State) (k : ℕ). packet_behind s i k) means (sym (meaning_held l i low)) ∙ accepted_last (meaning l) i p wide low)
      (run_keeps run a.link i (arrives.keeps sound) is (held_of l i) holds)

  -- from its acceptance, which answered D, the bytes then in its class's queue, and a class of weight w, the whole link sends at most
  -- (D / w rounded up, plus 1) times Q bytes until it has gone, in whatever order later arrivals and sends come
  pub bounded_wait : (run : List Made) → Run a.link run
      → (followed i (held_of l i) run).sent ≤ bound_of l i a.answer.bytes.0
  bounded_wait run is = omega (arith, (within run is).sent, within_bound)

  -- it goes: after as many sends it has gone
  pub it_goes : (run : List Made) → Run a.link run
      → bound_of l i a.answer.bytes.0 ≤ sends_in run
      → (followed i (held_of l i) run).gone ≡ true
  it_goes run is many = go (followed i (held_of l i) run).gone refl
    where
      go : (b : Bool) → (followed i (held_of l i) run).gone ≡ b → b ≡ true
      go true e = refl
      go false e = absurd (omega (arith, many, within_bound, (within run is).waits e))

  -- and what goes is the accepted packet
  pub it_is_this : (run : List Made) → Run a.link run → (followed i (held_of l i) run).gone ≡ true
      → (followed i (held_of l i) run).packet ≡ p
  it_is_this run is = (within run is).this

  -- the bound fits 64 bits
  pub bound_small : bound_of l i a.answer.bytes.0 < 2 ^ 64
  bound_small = rw (answered_after l i p a arrives accepted) (fits_64 (meaning l) i p sound.state wide low passes)

  -- what the send answers by which it goes (R311, R312): the bytes charged on the whole link from its acceptance to its end, whatever the
  -- running total was and however often it wrapped: the number is far below 2 to the power 64
  pub true_wait : (run : List Made) → Run a.link run → (followed i (held_of l i) run).gone ≡ true
      → (followed i (held_of l i) run).waited ≡ (followed i (held_of l i) run).sent
  true_wait run is gone =
      let sent = (followed i (held_of l i) run).sent in
      let total : a.link.totals.charged ≡ l.totals.charged = ap (λ (s : State). s.totals.charged) means in
      (within run is).waited gone
      ∙ ap (λ (n : ℕ). since (wrapped (n + sent)) l.totals.charged) total
      ∙ since_grown l.totals.charged sent (omega (arith, bounded_wait run is, bound_small))

-- ---- in a whole run

-- the calls after some calls are a run from the link that those left
run_after : (xs ys : List Made) (l : Link) → Run l (xs ++ ys) → Run (last_link l xs) ys
unfolding Run last_link
run_after [] ys l run = run
run_after (m ∷ xs) ys l run = run_after xs ys (link_left m) run.1

-- in any run, from a fresh link or from any record at all, whatever was called before: what is answered of an accepted packet when it goes
-- is what the link was charged from its acceptance to its end (R312, R313)
pub true_in_runs : (xs ys : List Made) (l : Link) (i : ℕ) (p : Packet) (answer : Arrival) (after : Link)
    → Run l (xs ++ (made (arrival i p) answer after ∷ ys)) → answer.verdict ≡ Ok tt
    → (followed i (held_of (last_link l xs) i) ys).gone ≡ true
    → (followed i (held_of (last_link l xs) i) ys).waited ≡ (followed i (held_of (last_link l xs) i) ys).sent
unfolding Run
true_in_runs xs ys l i p answer after run accepted gone =
    let here = run_after xs (made (arrival i p) answer after ∷ ys) l run in
    true_wait (last_link l xs) i p (arrival_leaves answer after) here.0 accepted ys here.1 gone

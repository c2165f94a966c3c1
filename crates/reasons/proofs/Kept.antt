-- What one call leaves of a leaf that sends nothing in it, and what a send is in which no round opens: what the promises of the reasons
-- (R214 to R217) rest on. Demand 2.
use mathlib.Core.Bool.{Bool, true, false}
use mathlib.Core.List.{List, [], ◌∷◌, ◌++◌}
use mathlib.Core.Logic.{◌⊎◌, inl, inr}
use mathlib.Core.Path.{◌≡◌, refl, sym, ap, subst, ◌∙◌}
use Prim.Native.Nat.{ℕ, zero, suc, ◌≤◌, ◌<◌}
use native.Mathlib.Decide.{dec_lt, ℕ_discrete}
use native.Mathlib.Omega.{arith}
use lib.Dec.{ltb}
use lib.ListN.{length, get_or, length-append, get_or-append}
use Rattle.checks.specs.declared.Refusal.TheVariants.{NothingWaits}
use Rattle.checks.specs.declared.Refusal.{Refusal}
use Rattle.std.specs.Prelude.{Ok, Err}
use Rattle.checks.specs.Check.{first_broken, refusal_at}
use Rattle.checks.proofs.Laws.{refused_or_passed, not_both}
use Rattle.sets.specs.Set.{has}
use Rattle.tree.specs.Class.{is_leaf}
use Rattle.state.specs.declared.Account.{Account}
use Rattle.state.specs.declared.Link.{Link}
use Rattle.state.specs.declared.Packet.{Packet}
use Rattle.state.specs.declared.Waiting.{Waiting}
use Rattle.state.specs.Mark.{marked_with}
use Rattle.state.specs.Account.{balance_of}
use Rattle.state.specs.Queue.{no_packet}
use Rattle.state.specs.State.{State, meaning, queue_at}
use Rattle.sound.specs.Sound.{Sound, SoundLink}
use Rattle.rules.specs.Active.{some_waits}
use Rattle.rules.specs.Opening.{opened}
use Rattle.rules.specs.Sending.{first_of, next_leaf, sent_state, Turn, Trace, turn_of, sends, trace_of}
use Rattle.rules.specs.Wide.{Wide}
use Rattle.rules.proofs.Meanings.{meaning_wide}
use Rattle.rules.proofs.Rounds.{leaf_most, sends_now, sends_closed}
use Rattle.rules.proofs.Sender.{Sender, next_sender}
use Rattle.rules.proofs.Sent.{sent_other}
use Rattle.rules.proofs.SentBooks.{sent_books}
use Rattle.calls.specs.declared.AfterArrival.{AfterArrival}
use Rattle.calls.specs.declared.AfterSend.{AfterSend}
use Rattle.calls.specs.Arrival.{arrival_checks, arrived, arrival_leaves, Arrives}
use Rattle.calls.specs.Send.{send_leaves, Sends}
use Rattle.calls.specs.Run.{arrival, send, Made, made, link_left, Meets}
use Rattle.calls.proofs.Arrivals.{arrives_as, arrival_taken, taken_number, queue_arrived, queue_other}
use Rattle.calls.proofs.Departures.{send_nothing, sends_as}
use Rattle.calls.proofs.Runs.{left_refused, left_taken, sent_is, sent_means}
use Rattle.reasons.specs.Promise.{SendsNone, OpensNone}

-- ---- what one call leaves of a leaf that does not send

-- leaf i has its account, is in the round or not as before, and no packet of it has gone; the place has not fallen
pub record Kept (s r : State) (i : ℕ) : Type 0 where
  pub tree : r.tree ≡ s.tree
  pub active : has r.round.active i ≡ has s.round.active i
  pub balance : balance_of r.round.accounts i ≡ balance_of s.round.accounts i
  pub more : length (queue_at s i) ≤ length (queue_at r i)
  pub first : 1 ≤ length (queue_at s i) → first_of r i ≡ first_of s i
  pub onward : s.round.place ≤ r.round.place

kept_same : (s : State) (i : ℕ) → Kept s s i
kept_same s i = record { tree = refl; active = refl; balance = refl; more = omega arith; first = λ h. refl; onward = omega arith }

-- an arrival, to it or to another
arrived_kept : (s : State) (i j : ℕ) (p : Packet) → Wide s → j < 64 → Kept s (arrived s j p) i
arrived_kept s i j p wide u = record {
  tree = refl;
  active = refl;
  balance = refl;
  more = more (ℕ_discrete i j);
  first = first (ℕ_discrete i j);
  onward = omega arith;
}
  where
    inside : j < length s.queues
    inside = omega (arith, wide.queues)

    more : Dec (i ≡ j) → length (queue_at s i) ≤ length (queue_at (arrived s j p) i)
    more (yes e) = rw (e, queue_arrived s j p inside) (omega (arith, length-append (queue_at s j) (marked_with s.totals.charged p ∷ [])))
    more (no ne) = rw (queue_other s j p inside i ne) (omega arith)

    first : Dec (i ≡ j) → 1 ≤ length (queue_at s i) → first_of (arrived s j p) i ≡ first_of s i
    first (yes e) h =
        rw (e, queue_arrived s j p inside) (get_or-append (queue_at s j) (marked_with s.totals.charged p ∷ []) no_packet 0 (rw e at h))
    first (no ne) h = ap (λ (q : List Waiting). get_or q 0 no_packet) (queue_other s j p inside i ne)

-- what holds before an arrival, and of the state with the packet where it is accepted, holds after it
pub by_arrival : (P : State → Type 0) (l : Link) (j : ℕ) (p : Packet) (a : AfterArrival) → SoundLink l → Arrives l j p a → P (meaning l)
    → (a.answer.verdict ≡ Ok tt → j < 64 → P (arrived (meaning l) j p)) → P (meaning a.link)
by_arrival P l j p a sound x before taken = go (refused_or_passed (first_broken (arrival_checks true (meaning l) j p)))
  where
    go : (first_broken (arrival_checks true (meaning l) j p) ≡ Ok tt)
        ⊎ ((n : Refusal) × (q : ℕ) × (first_broken (arrival_checks true (meaning l) j p) ≡ Err (refusal_at n q)))
        → P (meaning a.link)
    go (inl e) =
        let said = ap (λ (r : AfterArrival). r.answer.verdict) (arrives_as l j p a sound x ∙ arrival_taken true l j p e) in
        subst P (sym (left_taken l j p a sound x e)) (taken said (taken_number (meaning l) j p sound.state e))
    go (inr r) = subst (λ (m : Link). P (meaning m)) (sym (left_refused l j p a sound x r.2)) before

any_arrival_kept : (l : Link) (i j : ℕ) (p : Packet) (a : AfterArrival) → SoundLink l → Arrives l j p a
    → Kept (meaning l) (meaning a.link) i
any_arrival_kept l i j p a sound x =
    by_arrival (λ r. Kept (meaning l) r i) l j p a sound x (kept_same (meaning l) i)
    (λ said low. arrived_kept (meaning l) i j p (meaning_wide l x.shape.accounts) low)

-- another leaf sends
sent_kept : (s : State) (i j : ℕ) → Sound s → Wide s → Sender s j → is_leaf s.tree i ≡ true → (i ≡ j → ⊥) → Kept s (sent_state s j) i
unfolding sent_state
sent_kept s i j sound wide is leaf ne =
    let books = sent_books s j sound wide is in
    let queue : queue_at (sent_state s j) i ≡ queue_at s i = sent_other s j i ne in
    record {
      tree = refl;
      active = books.leaves i leaf ne;
      balance = ap (λ (a : Account). a.balance.0) (books.accounts i leaf ne);
      more = omega (arith, ap length queue);
      first = λ h. ap (λ (q : List Waiting). get_or q 0 no_packet) queue;
      onward = is.onward;
    }

-- ---- a send in which the round does not close, and one in which it does

-- no turn is forgotten, so a send that closes a round counts it
turns_grow : (n : ℕ) (turns : List Turn) (s : State) → length turns ≤ length (sends n turns s).turns
unfolding sends
turns_grow zero turns s = omega arith
turns_grow (suc n) turns s = go (ltb (next_leaf s) 64) refl (turns_grow n (turns ++ (turn_of s ∷ [])) (opened s))
  where
    go : (b : Bool) → ltb (next_leaf s) 64 ≡ b
        → length (turns ++ (turn_of s ∷ [])) ≤ length (sends n (turns ++ (turn_of s ∷ [])) (opened s)).turns
        → length turns ≤ length (sends (suc n) turns s).turns
    go true e ih = rw (e, sends) (omega arith)
    go false e ih = rw (e, sends) (omega (arith, ih, length-append turns (turn_of s ∷ [])))

closed_counts : (s : State) → next_leaf s ≡ 64 → 1 ≤ length (trace_of s).turns
unfolding trace_of
closed_counts s closed =
    let is = ap (λ (t : Trace). length t.turns) (sends_closed 63 [] s closed) in
    omega (arith, is, turns_grow 63 (turn_of s ∷ []) (opened s))

-- what a send is where no round opens: nothing waits, or the leaf that the search finds in this round sends
module _ (l : Link) (d : AfterSend) (sound : SoundLink l) (x : Sends l d) where
  wide : Wide (meaning l)
  wide = meaning_wide l x.shape.accounts

  pub sent_now : some_waits (meaning l) ≡ true → next_leaf (meaning l) < 64
      → (d.answer.verdict ≡ Ok tt) × (d.answer.class ≡ next_leaf (meaning l)) × (d.answer.rounds ≡ 0)
      × (meaning d.link ≡ sent_state (meaning l) (next_leaf (meaning l)))
  unfolding trace_of
  sent_now waits found =
      let is = sent_is l d sound x waits in
      let now = sends_now 64 [] (meaning l) found in (
        ap (λ (r : AfterSend). r.answer.verdict) is,
        ap (λ (r : AfterSend). r.answer.class) is ∙ ap (λ (t : Trace). t.class) now,
        ap (λ (r : AfterSend). r.answer.rounds) is ∙ ap (λ (t : Trace). length t.turns) now,
        sent_means l d sound x waits ∙ ap (λ (t : Trace). t.state) now,
      )

  quiet : d.answer.rounds ≡ 0 → some_waits (meaning l) ≡ true → next_leaf (meaning l) < 64
  quiet none waits = go (dec_lt (next_leaf (meaning l)) 64)
    where
      go : Dec (next_leaf (meaning l) < 64) → next_leaf (meaning l) < 64
      go (yes u) = u
      go (no u) =
          let closed : next_leaf (meaning l) ≡ 64 = omega (arith, leaf_most (meaning l) sound.state) in
          let some = closed_counts (meaning l) closed in
          let count = ap (λ (r : AfterSend). r.answer.rounds) (sent_is l d sound x waits) in
          absurd (omega (arith, some, count, none))

  pub nothing : some_waits (meaning l) ≡ false → (d.answer.verdict ≡ Err (refusal_at NothingWaits 0)) × (d.link ≡ l) × (d.answer.rounds ≡ 0)
  nothing none =
      let is = sends_as l d sound x ∙ send_nothing l none in (
        ap (λ (r : AfterSend). r.answer.verdict) is,
        ap (λ (r : AfterSend). r.link) is,
        ap (λ (r : AfterSend). r.answer.rounds) is,
      )

  -- where none opens, a leaf that does not send is kept
  pub quiet_kept : (i : ℕ) → is_leaf l.tree i ≡ true → d.answer.rounds ≡ 0 → (d.answer.verdict ≡ Ok tt → d.answer.class ≡ i → ⊥)
      → Kept (meaning l) (meaning d.link) i
  quiet_kept i leaf none other = go (some_waits (meaning l)) refl
    where
      go : (b : Bool) → some_waits (meaning l) ≡ b → Kept (meaning l) (meaning d.link) i
      go false e = subst (λ (m : Link). Kept (meaning l) (meaning m) i) (sym (nothing e).1) (kept_same (meaning l) i)
      go true e =
          let u = quiet none e in
          let now = sent_now e u in
          subst (λ (r : State). Kept (meaning l) r i) (sym now.3)
          (sent_kept (meaning l) i (next_leaf (meaning l)) sound.state wide (next_sender (meaning l) sound.state u) leaf
          (λ z. other now.0 (now.1 ∙ sym z)))

  -- a leaf that the search does not find does not send
  pub quiet_other : (i : ℕ) → d.answer.rounds ≡ 0 → (next_leaf (meaning l) < 64 → next_leaf (meaning l) ≡ i → ⊥)
      → d.answer.verdict ≡ Ok tt → d.answer.class ≡ i → ⊥
  quiet_other i none never passed at = go (some_waits (meaning l)) refl
    where
      go : (b : Bool) → some_waits (meaning l) ≡ b → ⊥
      go false e = not_both passed (nothing e).0
      go true e =
          let u = quiet none e in
          never u (sym (sent_now e u).1 ∙ at)

-- ---- any call

-- a call that opens no round and sends nothing of leaf i keeps it
pub one_kept : (l : Link) (m : Made) (i : ℕ) → SoundLink l → is_leaf l.tree i ≡ true → Meets l m → OpensNone m → SendsNone i m
    → Kept (meaning l) (meaning (link_left m)) i
one_kept l (made (arrival j p) answer after) i sound leaf x opens sends = any_arrival_kept l i j p (arrival_leaves answer after) sound x
one_kept l (made send answer after) i sound leaf x opens sends = quiet_kept l (send_leaves answer after) sound x i leaf opens sends

-- where the search does not find the leaf, no call that opens no round sends a packet of it
pub one_silent : (l : Link) (m : Made) (i : ℕ) → SoundLink l → Meets l m → OpensNone m
    → (next_leaf (meaning l) < 64 → next_leaf (meaning l) ≡ i → ⊥) → SendsNone i m
one_silent l (made (arrival j p) answer after) i sound x opens never = tt
one_silent l (made send answer after) i sound x opens never = quiet_other l (send_leaves answer after) sound x i opens never

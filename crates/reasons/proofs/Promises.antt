-- What each reason promises: no packet, no send before an arrival to it is accepted (R214); not in this round, none before a round opens
-- (R215); short, none before a round opens, and it lacks as many bytes all the while (R216); due, the search comes to it before the round
-- closes, and then it sends or lacks bytes (R217). Demand 2.
use mathlib.Core.Bool.{Bool, true, false}
use mathlib.Core.List.{List, [], ◌∷◌}
use mathlib.Core.Logic.{◌⊎◌, inl, inr}
use mathlib.Core.Path.{◌≡◌, refl, sym, ap, subst, ◌∙◌}
use Prim.Native.Nat.{ℕ, ◌+◌, ◌-◌, ◌≤◌, ◌<◌}
use native.Mathlib.Decide.{dec_lt}
use native.Mathlib.Omega.{arith}
use lib.ListN.{length}
use Rattle.std.specs.Prelude.{Ok}
use Rattle.checks.proofs.Laws.{not_both, not_true_and_false}
use Rattle.sets.specs.Set.{has}
use Rattle.units.specs.Cost.{cost_of}
use Rattle.tree.specs.declared.Tree.{Tree}
use Rattle.tree.specs.Class.{is_leaf}
use Rattle.tree.proofs.Rules.{leaf_number}
use Rattle.state.specs.declared.Link.{Link}
use Rattle.state.specs.declared.Packet.{Packet}
use Rattle.state.specs.declared.Waiting.{Waiting}
use Rattle.state.specs.Account.{balance_of}
use Rattle.state.specs.State.{State, meaning, queue_at}
use Rattle.sound.specs.Sound.{Sound, SoundLink}
use Rattle.rules.specs.Active.{some_waits}
use Rattle.rules.specs.Sending.{first_of, ready, next_leaf, sent_state}
use Rattle.rules.proofs.Meanings.{meaning_wide}
use Rattle.rules.proofs.Searches.{first_least}
use Rattle.rules.proofs.Sender.{next_sender, ready_lacks}
use Rattle.calls.specs.declared.AfterArrival.{AfterArrival}
use Rattle.calls.specs.declared.AfterSend.{AfterSend}
use Rattle.calls.specs.Arrival.{arrival_leaves, Arrives}
use Rattle.calls.specs.Send.{send_leaves, Sends}
use Rattle.calls.specs.Progress.{SendsFirst}
use Rattle.calls.specs.Run.{arrival, send, Made, made, link_left, last_link, Meets, Run}
use Rattle.calls.proofs.Arrivals.{queue_other}
use Rattle.calls.proofs.Progress.{progress}
use Rattle.calls.proofs.Runs.{meets_keeps}
use Rattle.reasons.specs.Reason.{HoldsNone, NotInRound, Lacks, StillDue}
use Rattle.reasons.specs.Promise.{SendsNone, TakesNone, OpensNone, Each, CameTo, ReachedInTime}
use Rattle.reasons.proofs.Kept.{Kept, by_arrival, sent_now, nothing, quiet_kept, one_kept, one_silent}

-- ---- a run in which no round opens

-- what is kept call by call of a leaf that does not send is kept by all calls
run_kept : (P : State → Type 0) (i : ℕ) → ((s r : State) → Kept s r i → P s → P r) → (ms : List Made) (l : Link) → SoundLink l
    → is_leaf l.tree i ≡ true → P (meaning l) → Run l ms → Each OpensNone ms → Each (SendsNone i) ms → P (meaning (last_link l ms))
unfolding Run Each last_link
run_kept P i keeps [] l sound leaf p run opens sends = p
run_kept P i keeps (m ∷ ms) l sound leaf p run opens sends =
    let k = one_kept l m i sound leaf run.0 opens.0 sends.0 in
    run_kept P i keeps ms (link_left m) (meets_keeps l m sound run.0) (ap (λ (t : Tree). is_leaf t i) k.tree ∙ leaf)
    (keeps (meaning l) (meaning (link_left m)) k p) run.1 opens.1 sends.1

-- where what is kept says that the search does not find the leaf, no call sends a packet of it
run_silent : (P : State → Type 0) (i : ℕ) → ((s r : State) → Kept s r i → P s → P r)
    → ((s : State) → Sound s → P s → next_leaf s < 64 → next_leaf s ≡ i → ⊥) → (ms : List Made) (l : Link) → SoundLink l
    → is_leaf l.tree i ≡ true → P (meaning l) → Run l ms → Each OpensNone ms → Each (SendsNone i) ms
unfolding Run Each
run_silent P i keeps never [] l sound leaf p run opens = tt
run_silent P i keeps never (m ∷ ms) l sound leaf p run opens =
    let not_i = one_silent l m i sound run.0 opens.0 (never (meaning l) sound.state p) in
    let k = one_kept l m i sound leaf run.0 opens.0 not_i in (
      not_i,
      run_silent P i keeps never ms (link_left m) (meets_keeps l m sound run.0) (ap (λ (t : Tree). is_leaf t i) k.tree ∙ leaf)
          (keeps (meaning l) (meaning (link_left m)) k p) run.1 opens.1,
    )

-- ---- the promises

-- not in this round: no call sends a packet of it before a round opens
waits_kept : (i : ℕ) (s r : State) → Kept s r i → NotInRound s i → NotInRound r i
waits_kept i s r k w = record { some = omega (arith, k.more, w.some); out = k.active ∙ w.out }

pub waits_promise : (i : ℕ) (ms : List Made) (l : Link) → SoundLink l → is_leaf l.tree i ≡ true → NotInRound (meaning l) i → Run l ms
    → Each OpensNone ms → Each (SendsNone i) ms
waits_promise i =
    run_silent (λ s. NotInRound s i) i (waits_kept i)
    (λ s sound w u e. not_true_and_false (subst (λ (k : ℕ). has s.round.active k ≡ true) e (next_sender s sound u).active) w.out)

-- short: no call sends a packet of it before a round opens, and it lacks as many bytes all the while
lacks_kept : (i n : ℕ) (s r : State) → Kept s r i → (1 ≤ length (queue_at s i)) × Lacks s i n → (1 ≤ length (queue_at r i)) × Lacks r i n
lacks_kept i n s r k w = (
  omega (arith, k.more, w.0),
  record {
    in_round_lem = k.active ∙ w.1.in_round_lem;
    below = omega (arith, k.onward, w.1.below);
    some = w.1.some;
    exact = ap (λ (b : ℕ). b + n) k.balance ∙ w.1.exact ∙ ap (λ (p : Waiting). cost_of p.length) (sym (k.first w.0));
  },
)

lacks_holds : (l : Link) (i n : ℕ) → SoundLink l → is_leaf l.tree i ≡ true → Lacks (meaning l) i n → 1 ≤ length (queue_at (meaning l) i)
lacks_holds l i n sound leaf w = (sound.state.waiting i (leaf_number l.tree i sound.state.fits.tree leaf)).waits leaf w.in_round_lem

lacks_never : (i n : ℕ) (s : State) → Sound s → (1 ≤ length (queue_at s i)) × Lacks s i n → next_leaf s < 64 → next_leaf s ≡ i → ⊥
lacks_never i n s sound w u e = omega (arith, (next_sender s sound u).onward, w.1.below, e)

pub short_promise : (i n : ℕ) (ms : List Made) (l : Link) → SoundLink l → is_leaf l.tree i ≡ true → Lacks (meaning l) i n → Run l ms
    → Each OpensNone ms → Each (SendsNone i) ms × Lacks (meaning (last_link l ms)) i n
short_promise i n ms l sound leaf w run opens =
    let p : (1 ≤ length (queue_at (meaning l) i)) × Lacks (meaning l) i n = (lacks_holds l i n sound leaf w, w) in
    let sends =
    run_silent (λ s. (1 ≤ length (queue_at s i)) × Lacks s i n) i (lacks_kept i n) (lacks_never i n) ms l sound leaf p run opens
    in
    (sends, (run_kept (λ s. (1 ≤ length (queue_at s i)) × Lacks s i n) i (lacks_kept i n) ms l sound leaf p run opens sends).1)

-- one call on a link whose class i holds no packet
empty_arrival : (l : Link) (i j : ℕ) (p : Packet) (a : AfterArrival) → SoundLink l → HoldsNone (meaning l) i → Arrives l j p a
    → (a.answer.verdict ≡ Ok tt → j ≡ i → ⊥) → HoldsNone (meaning a.link) i
empty_arrival l i j p a sound none x takes =
    let wide = meaning_wide l x.shape.accounts in
    by_arrival (λ r. HoldsNone r i) l j p a sound x none (λ said low. record {
      none = ap length (queue_other (meaning l) j p (omega (arith, wide.queues)) i (λ z. takes said (sym z))) ∙ none.none;
    })

empty_send : (l : Link) (i : ℕ) (d : AfterSend) → SoundLink l → HoldsNone (meaning l) i → Sends l d
    → (d.answer.verdict ≡ Ok tt → d.answer.class ≡ i → ⊥) × HoldsNone (meaning d.link) i
empty_send l i d sound none x = go (some_waits (meaning l)) refl
  where
    go : (b : Bool) → some_waits (meaning l) ≡ b
        → (d.answer.verdict ≡ Ok tt → d.answer.class ≡ i → ⊥) × HoldsNone (meaning d.link) i
    go false e = (
      λ passed at. not_both passed (nothing l d sound x e).0,
      subst (λ (m : Link). HoldsNone (meaning m) i) (sym (nothing l d sound x e).1) none,
    )
    go true e = (not_i, record { none = ap length (first.others i (λ z. not_i first.passes (sym z))) ∙ none.none })
      where
        first : SendsFirst l d
        first = (progress l d sound x).sends e

        not_i : d.answer.verdict ≡ Ok tt → d.answer.class ≡ i → ⊥
        not_i passed at =
            let holds = ap length first.queue in
            let here = ap (λ (k : ℕ). length (queue_at (meaning l) k)) at in
            omega (arith, holds, here, none.none)

one_empty : (l : Link) (m : Made) (i : ℕ) → SoundLink l → HoldsNone (meaning l) i → Meets l m → TakesNone i m
    → SendsNone i m × HoldsNone (meaning (link_left m)) i
one_empty l (made (arrival j p) answer after) i sound none x takes = (
  tt,
  empty_arrival l i j p (arrival_leaves answer after) sound none x takes,
)
one_empty l (made send answer after) i sound none x takes = empty_send l i (send_leaves answer after) sound none x

-- no packet: no call sends a packet of it before an arrival to it is accepted
pub empty_promise : (i : ℕ) (ms : List Made) (l : Link) → SoundLink l → HoldsNone (meaning l) i → Run l ms → Each (TakesNone i) ms
    → Each (SendsNone i) ms
unfolding Run Each
empty_promise i [] l sound none run takes = tt
empty_promise i (m ∷ ms) l sound none run takes =
    let o = one_empty l m i sound none run.0 takes.0 in
    (o.0, empty_promise i ms (link_left m) (meets_keeps l m sound run.0) o.1 run.1 takes.1)

-- a send whose search stops before the leaf opens no round and leaves it due
due_send : (l : Link) (i : ℕ) (d : AfterSend) → SoundLink l → is_leaf l.tree i ≡ true → StillDue (meaning l) i → Sends l d
    → next_leaf (meaning l) < i → (d.answer.rounds ≡ 0) × StillDue (meaning d.link) i × (is_leaf d.link.tree i ≡ true)
unfolding sent_state
due_send l i d sound leaf due x before = go (some_waits (meaning l)) refl
  where
    go : (b : Bool) → some_waits (meaning l) ≡ b
        → (d.answer.rounds ≡ 0) × StillDue (meaning d.link) i × (is_leaf d.link.tree i ≡ true)
    go false e =
        let same = (nothing l d sound x e).1 in (
          (nothing l d sound x e).2,
          subst (λ (m : Link). StillDue (meaning m) i) (sym same) due,
          ap (λ (m : Link). is_leaf m.tree i) same ∙ leaf,
        )
    go true e =
        let low = leaf_number l.tree i sound.state.fits.tree leaf in
        let now = sent_now l d sound x e (omega (arith, before, low)) in
        let other : d.answer.verdict ≡ Ok tt → d.answer.class ≡ i → ⊥ = λ passed at. omega (arith, before, now.1, at) in
        let k = quiet_kept l d sound x i leaf now.2 other in
        let place = ap (λ (s : State). s.round.place) now.3 in (
          now.2,
          record { in_round_lem = k.active ∙ due.in_round_lem; ahead = omega (arith, before, place) },
          ap (λ (t : Tree). is_leaf t i) k.tree ∙ leaf,
        )

-- due: the search comes to the leaf before the round closes
pub due_promise : (i : ℕ) (ms : List Made) (l : Link) → SoundLink l → is_leaf l.tree i ≡ true → StillDue (meaning l) i → Run l ms
    → ReachedInTime i l ms
unfolding Run ReachedInTime next_leaf
due_promise i [] l sound leaf due run = tt
due_promise i (made (arrival j p) answer after ∷ ms) l sound leaf due run =
    let a = arrival_leaves answer after in
    let kept = one_kept l (made (arrival j p) answer after) i sound leaf run.0 tt tt in
    let still = by_arrival (λ r. StillDue r i) l j p a sound run.0 due
    (λ said low. record { in_round_lem = due.in_round_lem; ahead = due.ahead }) in
    inr (tt, due_promise i ms after (run.0.keeps sound) (ap (λ (t : Tree). is_leaf t i) kept.tree ∙ leaf) still run.1)
due_promise i (made send answer after ∷ ms) l sound leaf due run =
    go (dec_lt (next_leaf (meaning l)) i) (λ still leaf'. due_promise i ms after (run.0.keeps sound) leaf' still run.1)
  where
    go : Dec (next_leaf (meaning l) < i) → (StillDue (meaning after) i → is_leaf after.tree i ≡ true → ReachedInTime i after ms)
        → ReachedInTime i l (made send answer after ∷ ms)
    go (no h) later =
        inl (record {
          due = due;
          first = λ k lo hi. first_least (ready (meaning l)) (64 - l.round.place) l.round.place k lo
              (omega arith);
        })
    go (yes h) later =
        let on = due_send l i (send_leaves answer after) sound leaf due run.0 h in
        inr (on.0, later on.1 on.2)

-- when the search comes to it, it sends, or its balance is smaller than what its first packet is charged
pub reached_then : (i : ℕ) (l : Link) (d : AfterSend) → SoundLink l → is_leaf l.tree i ≡ true → CameTo (meaning l) i → Sends l d
    → d.answer.verdict ≡ Ok tt
    → ((d.answer.class ≡ i) × (d.answer.rounds ≡ 0)) ⊎ (balance_of l.round.accounts i < cost_of (first_of (meaning l) i).length)
unfolding next_leaf
reached_then i l d sound leaf reached x passed = go (ready s i) refl
  where
    s : State
    s = meaning l

    low : i < 64
    low = leaf_number l.tree i sound.state.fits.tree leaf

    found : ready s i ≡ true → next_leaf s ≡ i
    found e = past (dec_lt i (next_leaf s))
      where
        past : Dec (i < next_leaf s) → next_leaf s ≡ i
        past (yes h) = absurd (not_true_and_false e (first_least (ready s) (64 - s.round.place) s.round.place i
            reached.due.ahead h))
        past (no h) = short (dec_lt (next_leaf s) i)
          where
            short : Dec (next_leaf s < i) → next_leaf s ≡ i
            short (no g) = omega arith
            short (yes g) =
                let next = next_sender s sound.state (omega (arith, g, low)) in
                absurd (not_true_and_false next.is_ready (reached.first (next_leaf s) next.onward g))

    waits : (b : Bool) → some_waits s ≡ b → some_waits s ≡ true
    waits true e = e
    waits false e = absurd (not_both passed (nothing l d sound x e).0)

    go : (b : Bool) → ready s i ≡ b
        → ((d.answer.class ≡ i) × (d.answer.rounds ≡ 0)) ⊎ (balance_of l.round.accounts i < cost_of (first_of s i).length)
    go true e =
        let now = sent_now l d sound x (waits (some_waits s) refl) (omega (arith, found e, low)) in
        inl (now.1 ∙ found e, now.2)
    go false e = inr (ready_lacks s i e reached.due.in_round_lem leaf)

-- Laws of an arrival: what it means, that it keeps a state sound, and that its contract determines the answer. Demands 1 and 2.
use mathlib.Core.Bool.{Bool, true, false, not}
use mathlib.Core.List.{List, [], ◌∷◌, ◌++◌}
use mathlib.Core.Logic.{◌⊎◌, inl, inr}
use mathlib.Core.Path.{◌≡◌, refl, sym, ap, subst, ◌∙◌}
use Prim.Native.Nat.{ℕ, ◌+◌, ◌≤◌, ◌<◌}
use native.Mathlib.Decide.{dec_lt, ℕ_discrete}
use native.Mathlib.Omega.{arith}
use lib.Dec.{leb}
use lib.ListN.{length, get_or, set, length-append, get_or-append}
use lib.Seq.{get_or-set_same, get_or-set_other, get_or_at}
use borrow.Author.Tests.{leb-false, ltb-false, not-false}
use Rattle.checks.specs.declared.Refusal.TheVariants.{NotSound, NoLeaf, BadLength, Full}
use Rattle.checks.specs.declared.Refusal.{Refusal}
use Rattle.std.specs.Prelude.{Ok, Err}
use Rattle.checks.specs.Check.{check, first_broken, Exactly, Verdict, refusal_at}
use Rattle.checks.proofs.Laws.{not_both, not_true_and_false, refused_or_passed, decides, pass_over}
use Rattle.checks.proofs.Laws.{none_broken, passed_parts, exactly_unique}
use Rattle.units.specs.Cost.{cost_of}
use Rattle.tree.specs.Class.{longest_of, is_leaf}
use Rattle.tree.proofs.Classes.{neither_true}
use Rattle.tree.proofs.Rules.{leaf_number}
use Rattle.tree.proofs.Below.{below_self}
use Rattle.tree.proofs.Changes.{changed_up_lem}
use Rattle.tree.proofs.Leaves.{leaf_sum}
use Rattle.state.specs.WayUp.{changed}
use Rattle.state.proofs.Bytes.{bytes_more}
use Rattle.state.specs.declared.Link.{Link}
use Rattle.state.specs.declared.Packet.{Packet}
use Rattle.state.specs.declared.Waiting.{Waiting}
use Rattle.state.specs.Account.{balance_of}
use Rattle.state.specs.Mark.{marked_with}
use Rattle.state.specs.Queue.{Shaped, no_packet, held_of, queue_of, bytes_in, put_last}
use Rattle.state.specs.State.{State, meaning, queue_at}
use Rattle.tree.proofs.Tables.{table_length}
use Rattle.state.proofs.Queues.{shaped_put}
use Rattle.state.proofs.Counting.{queues_totals}
use Rattle.state.proofs.Meaning.{meaning_held, meaning_put}
use Rattle.sound.specs.Sound.{InRange, HoldsRight, Sound, SoundLink}
use Rattle.calls.specs.declared.AfterArrival.{AfterArrival}
use Rattle.calls.specs.Arrival.{no_leaf, bad_length, full, arrival_checks, arrived, bytes_after, arrival_answer, arrival_leaves}
use Rattle.calls.specs.Arrival.{arrival_gives}
use Rattle.calls.specs.Arrival.{arrival_of, Arrives}

-- ---- what an arrival gives, by its checks

-- on a record that is not sound the number is 11, whatever else is wrong
pub unsound_number : (s : State) (i : ℕ) (p : Packet) → first_broken (arrival_checks false s i p) ≡ Err (refusal_at NotSound 0)
unsound_number s i p = decides _ _ refl

-- on a sound one, of a number that is no leaf, it is 12, whatever the length
pub no_leaf_number : (s : State) (i : ℕ) (p : Packet) → is_leaf s.tree i ≡ false → first_broken (arrival_checks true s i p) ≡ Err (refusal_at NoLeaf i)
unfolding no_leaf
no_leaf_number s i p f = pass_over _ _ refl ∙ decides _ _ (rw f refl)

-- of a leaf it is 13 where the length is out of range, then 14 where the queue is full, and otherwise it passes
module _ (s : State) (i : ℕ) (p : Packet) (leaf : is_leaf s.tree i ≡ true) where
  pub length_number : bad_length s i p ≡ true → first_broken (arrival_checks true s i p) ≡ Err (refusal_at BadLength i)
  unfolding no_leaf
  length_number bad = pass_over _ _ refl ∙ pass_over _ _ (rw leaf refl) ∙ decides _ _ bad

  pub full_number : bad_length s i p ≡ false → full s i ≡ true → first_broken (arrival_checks true s i p) ≡ Err (refusal_at Full i)
  unfolding no_leaf
  full_number good many = pass_over _ _ refl ∙ pass_over _ _ (rw leaf refl) ∙ pass_over _ _ good ∙ decides _ _ many

  pub no_number : bad_length s i p ≡ false → full s i ≡ false → first_broken (arrival_checks true s i p) ≡ Ok tt
  unfolding no_leaf
  no_number good few = pass_over _ _ refl ∙ pass_over _ _ (rw leaf refl) ∙ pass_over _ _ good ∙ pass_over _ _ few ∙ none_broken

-- what an arrival gives, by its verdict
pub arrival_refused : (sound : Bool) (l : Link) (i : ℕ) (p : Packet) {n : Refusal} {q : ℕ}
    → first_broken (arrival_checks sound (meaning l) i p) ≡ Err (refusal_at n q)
    → arrival_of sound l i p ≡ arrival_leaves (arrival_answer (Err (refusal_at n q)) 0) l
unfolding arrival_of
arrival_refused sound l i p e = ap (λ (v : Verdict). arrival_gives v l i p) e

pub arrival_taken : (sound : Bool) (l : Link) (i : ℕ) (p : Packet) → first_broken (arrival_checks sound (meaning l) i p) ≡ Ok tt
    → arrival_of sound l i p ≡ arrival_leaves (arrival_answer (Ok tt) (bytes_after (meaning l) i p))
    (put_last l i (marked_with l.totals.charged p))
unfolding arrival_of
arrival_taken sound l i p e = ap (λ (v : Verdict). arrival_gives v l i p) e

-- its verdict is that of its checks
pub arrival_verdict : (sound : Bool) (l : Link) (i : ℕ) (p : Packet)
    → (arrival_of sound l i p).answer.verdict ≡ first_broken (arrival_checks sound (meaning l) i p)
unfolding arrival_of
arrival_verdict sound l i p = go (first_broken (arrival_checks sound (meaning l) i p))
  where
    go : (v : Verdict) → (arrival_gives v l i p).answer.verdict ≡ v
    go (Ok _) = refl
    go (Err _) = refl

-- an arrival that is taken breaks none of the four numbers
pub record Taken (sound : Bool) (s : State) (i : ℕ) (p : Packet) : Type 0 where
  pub state : sound ≡ true
  pub leaf : is_leaf s.tree i ≡ true
  pub low : 1 ≤ p.length
  pub high : p.length ≤ longest_of s.tree i
  pub room : length (queue_at s i) < 32

pub taken : (sound : Bool) (s : State) (i : ℕ) (p : Packet) → first_broken (arrival_checks sound s i p) ≡ Ok tt → Taken sound s i p
unfolding no_leaf bad_length full
taken sound s i p e =
    let a = passed_parts (check NotSound (not sound) 0) _ e in
    let b = passed_parts (check NoLeaf (not (is_leaf s.tree i)) i) _ a.1 in
    let d = passed_parts (check BadLength (bad_length s i p) i) _ b.1 in
    let f = passed_parts (check Full (leb 32 (length (queue_at s i))) i) [] d.1 in
    let r = neither_true _ _ d.0 in
    record {
      state = not-false sound a.0;
      leaf = not-false (is_leaf s.tree i) b.0;
      low = ltb-false p.length 1 r.0;
      high = ltb-false (longest_of s.tree i) p.length r.1;
      room = leb-false 32 (length (queue_at s i)) f.0;
    }

-- a number that is no leaf is refused
pub no_leaf_refused : (sound : Bool) (l : Link) (i : ℕ) (p : Packet) → is_leaf l.tree i ≡ false
    → arrival_of sound l i p ≡ arrival_leaves (arrival_answer (first_broken (arrival_checks sound (meaning l) i p)) 0) l
unfolding arrival_of no_leaf
no_leaf_refused sound l i p f = go (refused_or_passed (first_broken (arrival_checks sound (meaning l) i p)))
  where
    go : (first_broken (arrival_checks sound (meaning l) i p) ≡ Ok tt)
        ⊎ ((n : Refusal) × (q : ℕ) × (first_broken (arrival_checks sound (meaning l) i p) ≡ Err (refusal_at n q)))
        → arrival_gives (first_broken (arrival_checks sound (meaning l) i p)) l i p
        ≡ arrival_leaves (arrival_answer (first_broken (arrival_checks sound (meaning l) i p)) 0) l
    go (inl e) = absurd (not_true_and_false (taken sound (meaning l) i p e).leaf f)
    go (inr r) = rw r.2

-- ---- an arrival keeps a state sound

-- the queues after it
module _ (s : State) (i : ℕ) (p : Packet) (u : i < length s.queues) where
  pub queue_arrived : queue_at (arrived s i p) i ≡ queue_at s i ++ (marked_with s.totals.charged p ∷ [])
  queue_arrived = get_or-set_same s.queues i (queue_at s i ++ (marked_with s.totals.charged p ∷ [])) [] u

  pub queue_other : (k : ℕ) → (k ≡ i → ⊥) → queue_at (arrived s i p) k ≡ queue_at s k
  queue_other k ne = get_or-set_other s.queues i k (queue_at s i ++ (marked_with s.totals.charged p ∷ [])) [] ne

  pub length_arrived : length (queue_at (arrived s i p) i) ≡ length (queue_at s i) + 1
  length_arrived = ap length queue_arrived ∙ length-append (queue_at s i) (marked_with s.totals.charged p ∷ [])

-- a packet of the queue, or the new one
packet_in_lem : (s : State) (i : ℕ) (p : Packet) → InRange s.tree i (marked_with s.totals.charged p)
    → ((j : ℕ) → j < length (queue_at s i) → InRange s.tree i (get_or (queue_at s i) j no_packet))
    → (j : ℕ) → j < length (queue_at s i) + 1 → InRange s.tree i (get_or (queue_at s i ++ (marked_with s.totals.charged p ∷ [])) j
    no_packet)
packet_in_lem s i p new old j h = go (dec_lt j (length (queue_at s i)))
  where
    go : Dec (j < length (queue_at s i)) → InRange s.tree i (get_or (queue_at s i ++ (marked_with s.totals.charged p ∷ [])) j no_packet)
    go (yes l) = rw (get_or-append (queue_at s i) (marked_with s.totals.charged p ∷ []) no_packet j l) (old j l)
    go (no l) =
        let e : length (queue_at s i) ≡ j = omega arith in
        rw (get_or_at (queue_at s i) (marked_with s.totals.charged p) [] no_packet j e) new

pub arrival_keeps : (s : State) (i : ℕ) (p : Packet) → i < 64 → length s.queues ≡ 64 → Sound s → Taken true s i p → Sound (arrived s i p)
arrival_keeps s i p u many sound t = record {
  fits = record { tree = sound.fits.tree; size = sound.fits.size };
  holds = λ k v.
      let h = sound.holds k v in
      both k (ℕ_discrete k i)
      (record {
        few = λ f. rw (len) (omega (arith, t.room));
        range = λ f j b.
            rw here
            (packet_in_lem s i p (record { low = t.low; high = t.high }) (λ m c. (sound.holds i u).range t.leaf m c) j (rw len at b));
        other = λ f. absurd (not_true_and_false t.leaf f);
      })
      (λ ne. record {
        few = λ f. rw (there k ne) (h.few f);
        range = λ f j b. rw (there k ne) (h.range f j (rw (there k ne) at b));
        other = λ f. rw (there k ne) (h.other f);
      });
  waiting = λ k v. record {
    waits = λ f a.
        at (λ (q : List Waiting). 1 ≤ length q) k (ℕ_discrete k i) (λ e. rw (length-append (queue_at s i)
        (marked_with s.totals.charged p ∷ [])) (omega arith))
        ((sound.waiting k v).waits f a);
  };
  past = record { word = sound.past.word; past = sound.past.past };
  above = λ k v. record { leaf_below_lem = (sound.above k v).leaf_below_lem; active = (sound.above k v).active };
  zero = λ k v. record { balance = (sound.zero k v).balance; residual = (sound.zero k v).residual; leaf = (sound.zero k v).leaf };
  adds = record { adds = sound.adds.adds };
  place = record { low = sound.place.low; high = sound.place.high };
  behind = λ k v. record {
    lacks = λ f a b.
        at (λ (q : List Waiting). balance_of s.round.accounts k < cost_of (get_or q 0 no_packet).length) k (ℕ_discrete k i)
        (λ e.
        rw (
          get_or-append (queue_at s i) (marked_with s.totals.charged p ∷ []) no_packet 0
              (rw (ap (queue_at s) e) at ((sound.waiting k v).waits f a)),
          ← e,
        )
        ((sound.behind k v).lacks f a b))
        ((sound.behind k v).lacks f a b);
  };
  totals = queues_totals s (set s.queues i (queue_at s i ++ (marked_with s.totals.charged p ∷ [])));
}
  where
    inside : i < length s.queues
    inside = omega (arith, many)

    here : queue_at (arrived s i p) i ≡ queue_at s i ++ (marked_with s.totals.charged p ∷ [])
    here = queue_arrived s i p inside

    len : length (queue_at (arrived s i p) i) ≡ length (queue_at s i) + 1
    len = length_arrived s i p inside

    there : (k : ℕ) → (k ≡ i → ⊥) → queue_at (arrived s i p) k ≡ queue_at s k
    there = queue_other s i p inside

    both : (k : ℕ) → Dec (k ≡ i) → HoldsRight (arrived s i p) i → ((k ≡ i → ⊥) → HoldsRight (arrived s i p) k)
        → HoldsRight (arrived s i p) k
    both k (yes e) new old = rw e new
    both k (no ne) new old = old ne

    at : (P : List Waiting → Type 0) (k : ℕ) → Dec (k ≡ i) → (k ≡ i → P (queue_at s i ++ (marked_with s.totals.charged p ∷ []))) → P
        (queue_at s k)
        → P (queue_at (arrived s i p) k)
    at P k (yes e) new old = rw (e, here) (new e)
    at P k (no ne) new old = rw (there k ne) old

-- the record after it means the state after it, and is sound
pub arrival_means : (l : Link) (i : ℕ) (p : Packet) → Shaped l → SoundLink l → is_leaf l.tree i ≡ true → held_of l i < 32
    → meaning (put_last l i (marked_with l.totals.charged p)) ≡ arrived (meaning l) i p
arrival_means l i p shape sound leaf room =
    meaning_put l i (marked_with l.totals.charged p) shape (record {
      rules = sound.state.fits.tree;
      leaf = leaf;
      totals = sound.state.totals;
    }) room

-- an accepted arrival's class is one of the 64 class numbers
pub taken_number : (s : State) (i : ℕ) (p : Packet) → Sound s → first_broken (arrival_checks true s i p) ≡ Ok tt → i < 64
taken_number s i p sound e = leaf_number s.tree i sound.fits.tree (taken true s i p e).leaf

pub arrival_sound : (l : Link) (i : ℕ) (p : Packet) → Shaped l → SoundLink l → first_broken (arrival_checks true (meaning l) i p) ≡ Ok tt
    → SoundLink (put_last l i (marked_with l.totals.charged p))
arrival_sound l i p shape sound e =
    let t = taken true (meaning l) i p e in
    let u = taken_number (meaning l) i p sound.state e in
    let room : held_of l i < 32 = rw (meaning_held l i u) at t.room in
    record {
      state = rw (arrival_means l i p shape sound t.leaf room)
          (arrival_keeps (meaning l) i p u (table_length (queue_of l) 64) sound.state t);
      starts = λ k v. record { start = (sound.starts k v).start };
    }

-- its lists are as long as they were
pub arrival_shaped : (sound : Bool) (l : Link) (i : ℕ) (p : Packet) → Shaped l → Shaped (arrival_of sound l i p).link
unfolding arrival_of
arrival_shaped sound l i p shape = go (first_broken (arrival_checks sound (meaning l) i p))
  where
    go : (v : Verdict) → Shaped (arrival_gives v l i p).link
    go (Ok _) = shaped_put l i (marked_with l.totals.charged p) shape
    go (Err _) = shape

-- ---- the contract determines the answer

pub arrival_one_answer : (l : Link) (i : ℕ) (p : Packet) (a b : AfterArrival) → Arrives l i p a → Arrives l i p b → a ≡ b
arrival_one_answer l i p a b x y =
    x.answer ∙ ap (λ (s : Bool). arrival_of s l i p) (exactly_unique x.exactly y.exactly) ∙ sym y.answer

-- on a sound record it is what the rules say
pub arrives_as : (l : Link) (i : ℕ) (p : Packet) (r : AfterArrival) → SoundLink l → Arrives l i p r → r ≡ arrival_of true l i p
arrives_as l i p r sound x = x.answer ∙ ap (λ (s : Bool). arrival_of s l i p) (x.exactly.complete sound)

-- an accepted arrival was on a sound record
pub accepted_sound : (l : Link) (i : ℕ) (p : Packet) (r : AfterArrival) → Arrives l i p r → r.answer.verdict ≡ Ok tt → SoundLink l
accepted_sound l i p r x accepted = x.exactly.sound (go x.sound refl)
  where
    go : (b : Bool) → x.sound ≡ b → b ≡ true
    go true e = refl
    go false e =
        absurd
        (not_both accepted
        (ap (λ (a : AfterArrival). a.answer.verdict) (x.answer ∙ ap (λ (b : Bool). arrival_of b l i p) e
        ∙ arrival_refused false l i p (unsound_number (meaning l) i p))))

-- ---- the bytes that it answers (R283)

-- those that an accepted one answers are what the link after it counts at its leaf: one read
pub bytes_read : (l : Link) (i : ℕ) (p : Packet) → length l.totals.bytes ≡ 64 → SoundLink l
    → first_broken (arrival_checks true (meaning l) i p) ≡ Ok tt
    → get_or (put_last l i (marked_with l.totals.charged p)).totals.bytes i 0 ≡ bytes_after (meaning l) i p
bytes_read l i p long sound passes =
    let t = taken true (meaning l) i p passes in
    let u = taken_number (meaning l) i p sound.state passes in
    let rules = sound.state.fits.tree in
    let cost = cost_of p.length in
    let more = changed_up_lem l.tree rules (changed false cost) i l.totals.bytes i u long in
    let here : get_or (put_last l i (marked_with l.totals.charged p)).totals.bytes i 0 ≡ get_or l.totals.bytes i 0 + cost =
    rw (below_self l.tree rules i u) at more
    in
    let before = (sound.state.totals i u).bytes ∙ leaf_sum l.tree rules (λ j. bytes_in (queue_at (meaning l) j)) i t.leaf in
    let inside : i < length (meaning l).queues = omega (arith, u, table_length (queue_of l) 64) in
    let after = ap bytes_in (queue_arrived (meaning l) i p inside) ∙ bytes_more (queue_at (meaning l) i) (marked_with l.totals.charged p)
    in
    omega (arith, here, before, after)

-- an accepted one answers those of its leaf's queue then
module _ (l : Link) (i : ℕ) (p : Packet) (r : AfterArrival) (x : Arrives l i p r) (accepted : r.answer.verdict ≡ Ok tt) where
  on_sound : SoundLink l
  on_sound = accepted_sound l i p r x accepted

  passes : first_broken (arrival_checks true (meaning l) i p) ≡ Ok tt
  passes =
      sym (arrival_verdict true l i p)
      ∙ ap (λ (a : AfterArrival). a.answer.verdict) (sym (arrives_as l i p r on_sound x))
      ∙ accepted

  pub answered_after : r.answer.bytes.0 ≡ bytes_after (meaning l) i p
  answered_after = ap (λ (a : AfterArrival). a.answer.bytes.0) (arrives_as l i p r on_sound x ∙ arrival_taken true l i p passes)

-- on a record that is not sound every arrival gives 11 at 0, and the very record
pub unsound_refused : (l : Link) (i : ℕ) (p : Packet) (r : AfterArrival) → (SoundLink l → ⊥) → Arrives l i p r
    → r ≡ arrival_leaves (arrival_answer (Err (refusal_at NotSound 0)) 0) l
unsound_refused l i p r not_sound x = x.answer ∙ go x.sound refl
  where
    go : (b : Bool) → x.sound ≡ b → arrival_of x.sound l i p ≡ arrival_leaves (arrival_answer (Err (refusal_at NotSound 0)) 0) l
    go true e = absurd (not_sound (x.exactly.sound e))
    go false e = rw e (arrival_refused false l i p (unsound_number (meaning l) i p))

-- ---- what the contract says of an exact flag and its answer

pub arrives_by : (l : Link) (i : ℕ) (p : Packet) (flag : Bool) (r : AfterArrival) → Shaped l → Exactly flag (SoundLink l)
    → r ≡ arrival_of flag l i p
    → Arrives l i p r
arrives_by l i p flag r shape exactly e = record {
  shape = shape;
  sound = flag;
  exactly = exactly;
  answer = e;
  keeps = λ sound. subst (λ (a : AfterArrival). SoundLink a.link)
      (sym (e ∙ ap (λ (b : Bool). arrival_of b l i p) (exactly.complete sound)))
      (go sound (refused_or_passed (first_broken (arrival_checks true (meaning l) i p))));
}
  where
    go : SoundLink l → (first_broken (arrival_checks true (meaning l) i p) ≡ Ok tt)
        ⊎ ((n : Refusal) × (q : ℕ) × (first_broken (arrival_checks true (meaning l) i p) ≡ Err (refusal_at n q)))
        → SoundLink (arrival_of true l i p).link
    go sound (inl passed) =
        subst (λ (a : AfterArrival). SoundLink a.link) (sym (arrival_taken true l i p passed))
        (arrival_sound l i p shape sound passed)
    go sound (inr w) = subst (λ (a : AfterArrival). SoundLink a.link) (sym (arrival_refused true l i p w.2)) sound

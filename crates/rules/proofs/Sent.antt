-- The state when a leaf has sent its first packet (R138 to R143) is sound. Demand 2.
use mathlib.Core.Bool.{true}
use mathlib.Core.List.{List, []}
use mathlib.Core.Path.{◌≡◌, sym, ap, subst, ◌∙◌}
use Prim.Native.Nat.{ℕ, ◌+◌, ◌-◌, ◌<◌}
use native.Mathlib.Decide.{ℕ_discrete}
use native.Mathlib.Omega.{arith}
use lib.ListN.{length, get_or, set, drop, length-set, length-drop}
use lib.Seq.{get_or-set_same, get_or-set_other, get_or-drop}
use Rattle.sets.specs.Set.{has}
use Rattle.units.specs.Cost.{cost_of}
use Rattle.tree.specs.Class.{is_leaf}
use Rattle.state.specs.declared.Account.{Account}
use Rattle.state.specs.declared.Waiting.{Waiting}
use Rattle.state.specs.Account.{balance_of}
use Rattle.state.specs.Queue.{no_packet}
use Rattle.state.proofs.Counting.{queues_totals}
use Rattle.state.specs.State.{State, queue_at, with_charge}
use Rattle.sound.specs.Sound.{InRange, HoldsRight, ActiveHolds, BehindPlace, Sound}
use Rattle.sound.proofs.Active.{child_to_leaf}
use Rattle.rules.specs.Sending.{first_of, next_leaf, books_after, sent_state}
use Rattle.rules.specs.Wide.{Wide}
use Rattle.rules.proofs.Sender.{Sender, next_sender, before_lacks}
use Rattle.rules.proofs.SentBooks.{SentBooks, sent_books, books_total}

-- the leaf's queue loses its first packet
pub sent_queue : (s : State) (i : ℕ) → Wide s → i < 64 → queue_at (sent_state s i) i ≡ drop 1 (queue_at s i)
unfolding sent_state
sent_queue s i wide u = get_or-set_same s.queues i (drop 1 (queue_at s i)) [] (omega (arith, wide.queues))

-- every other queue stays
pub sent_other : (s : State) (i k : ℕ) → (k ≡ i → ⊥) → queue_at (sent_state s i) k ≡ queue_at s k
unfolding sent_state
sent_other s i k ne = get_or-set_other s.queues i k (drop 1 (queue_at s i)) [] ne

module _ (s : State) (i : ℕ) (sound : Sound s) (wide : Wide s) (is : Sender s i) where
  -- there are as many accounts and queues as before
  pub wide_after : Wide (sent_state s i)
  unfolding sent_state
  wide_after = record {
    accounts = (books_total s i sound.fits.tree wide is.high is.covers).1;
    queues = length-set s.queues i (drop 1 (queue_at s i)) ∙ wide.queues;
  }

  shorter : length (queue_at (sent_state s i) i) ≡ length (queue_at s i) - 1
  shorter = ap length (sent_queue s i wide is.high) ∙ length-drop 1 (queue_at s i)

  -- each leaf holds 0 to 32 packets, each within its range, and no other class holds any
  holds_leaf : HoldsRight (sent_state s i) i
  unfolding sent_state
  holds_leaf = record {
    few = λ f. omega (arith, shorter, (sound.holds i is.high).few f);
    range =
        λ f j h.
        subst (InRange s.tree i)
        (sym (ap (λ (q : List Waiting). get_or q j no_packet) (sent_queue s i wide is.high) ∙ get_or-drop 1 (queue_at s i) j no_packet))
        ((sound.holds i is.high).range f (1 + j) (omega (arith, shorter, h)));
    other = λ f. omega (arith, shorter, (sound.holds i is.high).other f);
  }

  holds_after : (k : ℕ) → k < 64 → HoldsRight (sent_state s i) k
  unfolding sent_state
  holds_after k u = at (ℕ_discrete k i)
    where
      at : Dec (k ≡ i) → HoldsRight (sent_state s i) k
      at (yes e) = subst (HoldsRight (sent_state s i)) (sym e) holds_leaf
      at (no ne) =
          let same = sent_other s i k ne in
          let held = ap length same in
          record {
            few = λ f. omega (arith, held, (sound.holds k u).few f);
            range =
                λ f j h.
                subst (λ (q : List Waiting). InRange s.tree k (get_or q j no_packet)) (sym same)
                ((sound.holds k u).range f j (omega (arith, held, h)));
            other = λ f. held ∙ (sound.holds k u).other f;
          }

  -- active leaves hold a packet
  waiting_after : (k : ℕ) → k < 64 → ActiveHolds (sent_state s i) k
  unfolding sent_state
  waiting_after k u = at (ℕ_discrete k i)
    where
      at : Dec (k ≡ i) → ActiveHolds (sent_state s i) k
      at (yes e) =
          subst (ActiveHolds (sent_state s i)) (sym e)
          (record { waits = λ f a. omega (arith, shorter, (sent_books s i sound wide is).more a) })
      at (no ne) = record {
        waits = λ f a.
            let held = ap length (sent_other s i k ne) in
            omega (arith, held, (sound.waiting k u).waits f (sym ((sent_books s i sound wide is).leaves k f ne) ∙ a));
      }

  -- every active leaf below the new place has a balance smaller than its first packet
  behind_after : (k : ℕ) → k < 64 → BehindPlace (sent_state s i) k
  unfolding sent_state
  behind_after k u = record { lacks = lacks }
    where
      books : SentBooks s i (books_after s i)
      books = sent_books s i sound wide is

      lacks : is_leaf s.tree k ≡ true → has (books_after s i).active k ≡ true → k < i
          → balance_of (books_after s i).accounts k < cost_of (get_or (queue_at (sent_state s i) k) 0 no_packet).length
      lacks f a l =
          let ne : k ≡ i → ⊥ = λ e. omega arith in
          let first = ap (λ (q : List Waiting). cost_of (get_or q 0 no_packet).length) (sent_other s i k ne) in
          let balance = ap (λ (x : Account). x.balance.0) (books.accounts k f ne) in
          omega (arith, first, balance, before_lacks s i sound is k u f (sym (books.leaves k f ne) ∙ a) l)

  -- so the state is sound
  pub sound_after : Sound (sent_state s i)
  unfolding sent_state
  sound_after =
      let books = sent_books s i sound wide is in
      let by = child_to_leaf s.tree (books_after s i).active sound.fits.tree books.by_child in
      record {
        fits = record { tree = sound.fits.tree; size = sound.fits.size };
        holds = holds_after;
        waiting = waiting_after;
        past = record { word = books.right.word; past = books.right.past };
        above = λ k u. record { leaf_below_lem = by.has_leaf k; active = by.from_leaf k };
        zero =
            λ k u. record {
              balance = λ l a. omega (arith, books.right.empty k l u a);
              residual = λ l a. omega (arith, books.right.empty k l u a);
              leaf = books.right.leaf k u;
            };
        adds = record { adds = (books_total s i sound.fits.tree wide is.high is.covers).0 ∙ sound.adds.adds };
        place = record { low = is.low; high = omega (arith, is.high) };
        behind = behind_after;
        totals =
            λ k u.
            let q = queues_totals (with_charge s (cost_of (first_of s i).length)) (set s.queues i (drop 1 (queue_at s i))) k u in
            record { packets = q.packets; bytes = q.bytes };
      }

-- a send of the next leaf leaves a sound state
pub sent_sound : (s : State) → Sound s → Wide s → next_leaf s < 64 → Sound (sent_state s (next_leaf s))
sent_sound s sound wide u = sound_after s (next_leaf s) sound wide (next_sender s sound u)

pub sent_wide : (s : State) → Sound s → Wide s → next_leaf s < 64 → Wide (sent_state s (next_leaf s))
sent_wide s sound wide u = wide_after s (next_leaf s) sound wide (next_sender s sound u)

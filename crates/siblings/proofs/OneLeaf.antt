-- One leaf that keeps holding a packet, through one step: a round that opens gives it its weight times its parent's quota, a send of its
-- own takes what the packet cost, and nothing else moves its balance. Demand 2.
use mathlib.Core.Bool.{true, cond}
use mathlib.Core.Path.{◌≡◌, refl, sym, ap, subst, ◌∙◌}
use Prim.Native.Nat.{ℕ, ◌+◌, ◌*◌, ◌≤◌, ◌<◌}
use native.Mathlib.Decide.{ℕ_discrete}
use native.Mathlib.Omega.{arith}
use lib.Dec.{eqb}
use lib.ListN.{length, length-drop}
use borrow.Author.Tests.{lt-leb, eq-eqb, ne_eqb}
use Rattle.sets.specs.Set.{has}
use Rattle.units.specs.Cost.{cost_of}
use Rattle.tree.specs.Class.{parent_of, weight_of, longest_of, is_class, is_leaf}
use Rattle.tree.specs.Size.{longest_cost}
use Rattle.tree.proofs.Rules.{leaf_number}
use Rattle.state.specs.declared.Account.{Account}
use Rattle.state.specs.Account.{balance_of}
use Rattle.state.specs.State.{State, queue_at}
use Rattle.sound.specs.Sound.{Sound}
use Rattle.rules.specs.Active.{round_active}
use Rattle.rules.specs.Opening.{next_size, opened_with, opened}
use Rattle.rules.specs.Sending.{first_of, next_leaf, books_after, sent_state, turn_of}
use Rattle.rules.specs.Wide.{Wide}
use Rattle.rules.proofs.Closing.{leaf_short}
use Rattle.rules.proofs.Opened.{opened_leaf_lem}
use Rattle.rules.proofs.Sender.{Sender}
use Rattle.rules.proofs.Sent.{sent_queue, sent_other}
use Rattle.rules.proofs.SentBooks.{paid_leaf, sent_books}
use Rattle.rules.proofs.Taken.{leaf_class_lem, waits_taken}

-- ---- a round closes and another opens

-- the classes that are active then are those of the new round
pub opened_active : (s : State) → (opened s).round.active ≡ round_active s
unfolding opened_with
opened_active s = refl

module _ (s : State) (k : ℕ) (sound : Sound s) (leaf : is_leaf s.tree k ≡ true) where
  class : is_class s.tree k ≡ true
  class = leaf_class_lem s.tree k sound.fits.tree (leaf_number s.tree k sound.fits.tree leaf) leaf

  -- when a round has closed a leaf has less than its longest packet costs
  pub closing_short : next_leaf s ≡ 64 → balance_of s.round.accounts k < cost_of (longest_of s.tree k)
  unfolding longest_cost
  closing_short ends =
      let short = leaf_short s sound ends k class leaf in
      omega (arith, rw leaf at short)

  -- one that holds a packet is in the round that opens
  pub opening_takes : 1 ≤ length (queue_at s k) → has (opened s).round.active k ≡ true
  opening_takes held = ap (λ (a : ℕ). has a k) (opened_active s) ∙ waits_taken s sound.fits.tree k class leaf held

  -- and gains its weight times its parent's quota
  pub opening_gains : Wide s → 1 ≤ length (queue_at s k)
      → balance_of (opened s).round.accounts k ≡ balance_of s.round.accounts k + weight_of s.tree k * (turn_of s).quotas
      (parent_of s.tree k)
  unfolding turn_of
  opening_gains wide held = (opened_leaf_lem s (next_size s) sound wide k class leaf (waits_taken s sound.fits.tree k class leaf held)).1

-- ---- a leaf sends

module _ (s : State) (n k : ℕ) (sound : Sound s) (wide : Wide s) (is : Sender s n) (leaf : is_leaf s.tree k ≡ true) where
  -- a leaf that still holds a packet after its own send held two
  two : k ≡ n → 1 ≤ length (queue_at (sent_state s n) k) → 1 < length (queue_at s n)
  two e more =
      omega (
        arith,
        more,
        ap (λ (i : ℕ). length (queue_at (sent_state s n) i)) e,
        ap length (sent_queue s n wide is.high),
        length-drop 1 (queue_at s n),
      )

  -- a leaf that holds a packet after the send held one before it
  pub sending_held : 1 ≤ length (queue_at (sent_state s n) k) → 1 ≤ length (queue_at s k)
  sending_held more = go (ℕ_discrete k n)
    where
      go : Dec (k ≡ n) → 1 ≤ length (queue_at s k)
      go (yes e) = subst (λ (i : ℕ). 1 ≤ length (queue_at s i)) (sym e) is.holds
      go (no ne) = omega (arith, more, ap length (sent_other s n k ne))

  -- and stays in its round
  pub sending_stays : 1 ≤ length (queue_at (sent_state s n) k) → has s.round.active k ≡ true → has (sent_state s n).round.active k ≡ true
  unfolding sent_state books_after
  sending_stays more on = go (ℕ_discrete k n)
    where
      go : Dec (k ≡ n) → has (books_after s n).active k ≡ true
      go (yes e) = rw (lt-leb (length (queue_at s n)) 1 (two e more)) on
      go (no ne) = (sent_books s n sound wide is).leaves k leaf ne ∙ on

  -- the one that sends pays for its packet, any other keeps its balance
  pub sending_pays : 1 ≤ length (queue_at (sent_state s n) k)
      → balance_of (sent_state s n).round.accounts k + cond (eqb n k) (cost_of (first_of s n).length) 0 ≡ balance_of s.round.accounts k
  unfolding sent_state books_after
  sending_pays more = go (ℕ_discrete k n)
    where
      own : 1 < length (queue_at s n) → balance_of (books_after s n).accounts n + cost_of (first_of s n).length
          ≡ balance_of s.round.accounts n
      own many =
          rw (lt-leb (length (queue_at s n)) 1 many)
          (omega (arith, ap (λ (a : Account). a.balance.0) (paid_leaf s n wide is.low is.high), is.covers))

      go : Dec (k ≡ n)
          → balance_of (books_after s n).accounts k + cond (eqb n k) (cost_of (first_of s n).length) 0 ≡ balance_of s.round.accounts k
      go (yes e) = rw (e, eq-eqb n n refl) (own (two e more))
      go (no ne) =
          let same = ap (λ (a : Account). a.balance.0) ((sent_books s n sound wide is).accounts k leaf ne) in
          rw (ne_eqb n k (λ e. ne (sym e))) (omega (arith, same))

-- One step while a packet waits: what is sent and the number that falls are together no more than the number was. Demand 3.
use mathlib.Core.Bool.{Bool, true, false}
use mathlib.Core.List.{List}
use mathlib.Core.Path.{◌≡◌, refl, sym, ap, ap₂, ◌∙◌}
use Prim.Native.Nat.{ℕ, suc, ◌+◌, ◌-◌, ◌≤◌}
use native.Mathlib.Nat.{mul-suc, mul-le-mul, mul-le-mul_left}
use native.Mathlib.Omega.{arith}
use lib.ListN.{length, take, length-drop}
use borrow.Author.Tests.{lt-leb}
use Rattle.sets.specs.Set.{has}
use Rattle.units.specs.Cost.{cost_of}
use Rattle.tree.specs.Class.{weight_of}
use Rattle.tree.specs.Size.{round_size}
use Rattle.tree.proofs.Classes.{class_range}
use Rattle.state.specs.declared.Account.{Account}
use Rattle.state.specs.declared.Waiting.{Waiting}
use Rattle.state.specs.Account.{account_of, balance_of, funds_of, sent_from}
use Rattle.state.specs.Queue.{bytes_in}
use Rattle.state.specs.State.{State, queue_at}
use Rattle.state.proofs.Bytes.{bytes_without}
use Rattle.rules.specs.Active.{round_active}
use Rattle.rules.specs.Opening.{Kind, main, surplus, next_kind, opened_with, Resizes, Covers}
use Rattle.rules.specs.Sending.{first_of, next_leaf, books_after, sent_state}
use Rattle.rules.proofs.Closing.{closed_short}
use Rattle.rules.proofs.Gains.{main_gains}
use Rattle.rules.proofs.Opened.{opened_leaf_lem, opened_root_stays, opened_sound, opened_total, opened_wide}
use Rattle.rules.proofs.Resized.{never_below}
use Rattle.rules.proofs.Sender.{Sender}
use Rattle.rules.proofs.Sent.{sent_queue, sent_other, wide_after, sound_after}
use Rattle.rules.proofs.SentBooks.{paid_leaf, books_total, sent_books}
use Rattle.rules.proofs.Taken.{waits_taken}
use Rattle.wait.specs.Wait.{over_rounded_up}
use Rattle.wait.proofs.Credit.{
  Holds,
  credit,
  bytes_up_to,
  lacking,
  mains,
  falling,
  credit_most,
  credit_change,
  balance_part,
  first_part,
  holds_class,
  holds_weight,
  first_costs,
}
use Rattle.wait.proofs.RootGains.{books_root}
use Rattle.wait.proofs.RoundedUp.{up_grows, up_falls}

-- where no more main rounds may be needed than before, the number falls as the credit does
credit_falls : (s t : State) (i j k c : ℕ) → t.tree ≡ s.tree → mains t i j ≤ mains s i k → credit t + c ≤ credit s
    → falling t i j + c ≤ falling s i k
unfolding falling
credit_falls s t i j k c tree less fall =
    let same : round_size t.tree ≤ round_size s.tree = omega (arith, ap round_size tree) in
    omega (arith, fall, mul-le-mul same less)

-- ---- a round opens, with any size that it may open with

module _ (s : State) (i k : ℕ) (h : Holds s i k) (closed : next_leaf s ≡ 64) (size : ℕ) (fit : Resizes s size) where
  -- the class is active in the new round
  taken_in : has (round_active s) i ≡ true
  taken_in = waits_taken s h.sound.fits.tree i (holds_class s i k h) h.leaf (omega (arith, h.behind))

  covers : Covers s size
  covers = never_below s size h.sound h.wide fit closed

  -- the packet still waits
  pub opened_holds : Holds (opened_with size s) i k
  unfolding opened_with
  opened_holds = record {
    sound = opened_sound s size h.sound h.wide fit covers;
    wide = opened_wide s size h.sound h.wide;
    low = h.low;
    leaf = h.leaf;
    behind = h.behind;
  }

  -- at the closing the class's balance did not cover its first packet
  closed_lacking : 1 ≤ lacking s i k
  unfolding lacking
  closed_lacking = go (has s.round.active i) refl
    where
      first : cost_of (first_of s i).length ≤ bytes_up_to s i k
      first = first_part s i k h.behind

      go : (b : Bool) → has s.round.active i ≡ b → 1 ≤ bytes_up_to s i k - balance_of s.round.accounts i
      go true on = omega (arith, first, closed_short s h.sound closed i (holds_class s i k h) h.leaf on)
      go false off =
          omega (
            arith,
            first,
            first_costs s i k h,
            (h.sound.zero i h.low).balance (class_range s.tree i (holds_class s i k h)).0 off,
          )

  -- a surplus round: the credit is as it was, and the class's balance no smaller
  surplus_falls : next_kind s ≡ surplus → falling (opened_with size s) i k ≤ falling s i k
  unfolding opened_with mains lacking bytes_up_to
  surplus_falls kind =
      let gain = (opened_leaf_lem s size h.sound h.wide i (holds_class s i k h) h.leaf taken_in).1 in
      let root = ap funds_of (opened_root_stays s size h.sound h.wide kind) in
      let same = opened_total s size h.sound h.wide fit covers ∙ fit.kept kind ∙ sym h.sound.adds.adds in
      let fall = credit_change s (opened_with size s) 0 same (omega (arith, root)) in
      let less =
      up_grows (bytes_in (take (suc k) (queue_at s i)) - balance_of (opened_with size s).round.accounts i)
      (bytes_in (take (suc k) (queue_at s i)) - balance_of s.round.accounts i)
      (weight_of s.tree i) (holds_weight s i k h) (omega (arith, gain))
      in
      omega (arith, credit_falls s (opened_with size s) i k k 0 refl less fall)

  -- a main round: the class gains at least its weight, so one main round less may be needed, while the credit grows to at most Q
  main_falls : next_kind s ≡ main → falling (opened_with size s) i k ≤ falling s i k
  unfolding opened_with mains lacking bytes_up_to falling
  main_falls kind =
      let a = bytes_in (take (suc k) (queue_at s i)) - balance_of (opened_with size s).round.accounts i in
      let b = bytes_in (take (suc k) (queue_at s i)) - balance_of s.round.accounts i in
      let w = weight_of s.tree i in
      let gain = main_gains s size h.sound h.wide fit closed kind i (holds_class s i k h) h.leaf taken_in in
      let less = up_falls a b w (holds_weight s i k h) closed_lacking (omega (arith, gain)) in
      let most = credit_most (opened_with size s) (opened_sound s size h.sound h.wide fit covers) in
      omega (arith, most, mul-suc (round_size s.tree) (over_rounded_up a w), mul-le-mul_left (round_size s.tree) less)

  pub opened_falls : falling (opened_with size s) i k ≤ falling s i k
  opened_falls = go (next_kind s) refl
    where
      go : (x : Kind) → next_kind s ≡ x → falling (opened_with size s) i k ≤ falling s i k
      go main e = main_falls e
      go surplus e = surplus_falls e

-- ---- a leaf sends

-- the credit falls by what the packet costs, or by more
sent_credit : (s : State) (i k j : ℕ) → Holds s i k → Sender s j → credit (sent_state s j) + cost_of (first_of s j).length ≤ credit s
unfolding sent_state
sent_credit s i k j h is =
    credit_change s (sent_state s j) (cost_of (first_of s j).length)
    (books_total s j h.sound.fits.tree h.wide is.high is.covers).0
    (books_root s j h.wide is.low)

-- another leaf sends: the class's packets and its balance are as they were
module _ (s : State) (i k j : ℕ) (h : Holds s i k) (is : Sender s j) (ne : i ≡ j → ⊥) where
  pub other_holds : Holds (sent_state s j) i k
  unfolding sent_state
  other_holds = record {
    sound = sound_after s j h.sound h.wide is;
    wide = wide_after s j h.sound h.wide is;
    low = h.low;
    leaf = h.leaf;
    behind = omega (arith, ap length (sent_other s j i ne), h.behind);
  }

  other_lacking : lacking (sent_state s j) i k ≡ lacking s i k
  unfolding sent_state lacking bytes_up_to
  other_lacking =
      ap₂ (λ (q : List Waiting) (a : Account). bytes_in (take (suc k) q) - a.balance.0) (sent_other s j i ne)
      ((sent_books s j h.sound h.wide is).accounts i h.leaf ne)

  pub other_falls : falling (sent_state s j) i k + cost_of (first_of s j).length ≤ falling s i k
  unfolding sent_state mains
  other_falls =
      let same : mains (sent_state s j) i k ≡ mains s i k = ap (λ (d : ℕ). over_rounded_up d (weight_of s.tree i)) other_lacking in
      credit_falls s (sent_state s j) i k k (cost_of (first_of s j).length) refl (omega (arith, same)) (sent_credit s i k j h is)

-- the class itself sends a packet before it: the bytes up to it and the class's balance fall by what that one costs
module _ (s : State) (i k : ℕ) (h : Holds s i (suc k)) (is : Sender s i) where
  pub own_holds : Holds (sent_state s i) i k
  unfolding sent_state
  own_holds = record {
    sound = sound_after s i h.sound h.wide is;
    wide = wide_after s i h.sound h.wide is;
    low = h.low;
    leaf = h.leaf;
    behind = omega (arith, ap length (sent_queue s i h.wide h.low), length-drop 1 (queue_at s i), h.behind);
  }

  own_account : account_of (books_after s i).accounts i ≡ sent_from (account_of s.round.accounts i) (cost_of (first_of s i).length)
  unfolding books_after
  own_account = rw (lt-leb (length (queue_at s i)) 1 (omega (arith, h.behind))) (paid_leaf s i h.wide is.low is.high)

  own_lacking : lacking (sent_state s i) i k ≡ lacking s i (suc k)
  unfolding sent_state lacking bytes_up_to
  own_lacking =
      let bytes = ap (λ (q : List Waiting). bytes_in (take (suc k) q)) (sent_queue s i h.wide h.low) in
      let balance = ap (λ (a : Account). a.balance.0) own_account in
      omega (arith, bytes, balance, bytes_without (queue_at s i) k h.behind, is.covers)

  pub own_falls : falling (sent_state s i) i k + cost_of (first_of s i).length ≤ falling s i (suc k)
  unfolding sent_state mains
  own_falls =
      let same : mains (sent_state s i) i k ≡ mains s i (suc k) = ap (λ (d : ℕ). over_rounded_up d (weight_of s.tree i)) own_lacking in
      credit_falls s (sent_state s i) i k (suc k) (cost_of (first_of s i).length) refl (omega (arith, same)) (sent_credit s i (suc k) i h is)

-- the packet itself goes: the credit covers it
pub itself_covered : (s : State) (i k : ℕ) → Holds s i k → Sender s i → cost_of (first_of s i).length ≤ falling s i k
unfolding falling
itself_covered s i k h is = omega (arith, is.covers, balance_part s i is.low is.high)

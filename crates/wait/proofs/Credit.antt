-- The number that falls while a packet waits: what the classes other than the root hold, and Q for each main round that may still be
-- needed. Demand 3.
use mathlib.Core.Bool.{true}
use mathlib.Core.Path.{◌≡◌, refl}
use Prim.Native.Nat.{ℕ, suc, ◌+◌, ◌-◌, ◌*◌, ◌≤◌, ◌<◌}
use native.Mathlib.Decide.{dec_le}
use native.Mathlib.Nat.{mul-le-mul}
use native.Mathlib.Omega.{arith}
use lib.ListN.{length, take}
use Rattle.units.specs.Cost.{cost_of}
use Rattle.units.proofs.Laws.{cost_positive}
use Rattle.tree.specs.Class.{weight_of, is_class, is_leaf}
use Rattle.tree.specs.Size.{all_weights, round_size}
use Rattle.tree.specs.Sum.{sum_to}
use Rattle.tree.proofs.Classes.{class_range}
use Rattle.tree.proofs.Rules.{weight_range}
use Rattle.state.specs.Account.{account_of, balance_of, funds_of}
use Rattle.state.specs.Queue.{bytes_in}
use Rattle.state.specs.State.{State, queue_at}
use Rattle.state.proofs.Bytes.{bytes_first}
use Rattle.sound.specs.Sound.{Sound, total}
use Rattle.tree.proofs.Sums.{sum_part}
use Rattle.rules.specs.Sending.{first_of}
use Rattle.rules.specs.Waits.{Waits}
use Rattle.rules.specs.Wide.{Wide}
use Rattle.rules.proofs.Taken.{leaf_class_lem}
use Rattle.wait.specs.Wait.{over_rounded_up}
use Rattle.wait.proofs.RoundedUp.{up_some}

-- class i of a sound state holds a packet with k packets before it
pub record Holds (s : State) (i k : ℕ) : Type 0 where
  pub sound : Sound s
  pub wide : Wide s
  pub low : i < 64
  pub leaf : is_leaf s.tree i ≡ true
  pub behind : k < length (queue_at s i)

-- all B and R of the classes other than the root
unfoldable pub credit : State → ℕ
credit s = sum_to (λ i. funds_of (account_of s.round.accounts i)) 63

-- the bytes of class i's packets up to the one with k before it, and with it
unfoldable pub bytes_up_to : State → ℕ → ℕ → ℕ
bytes_up_to s i k = bytes_in (take (suc k) (queue_at s i))

-- what class i's balance lacks of them
unfoldable pub lacking : State → ℕ → ℕ → ℕ
lacking s i k = bytes_up_to s i k - balance_of s.round.accounts i

-- in how many main rounds class i gains as much, at the least it gains
unfoldable pub mains : State → ℕ → ℕ → ℕ
mains s i k = over_rounded_up (lacking s i k) (weight_of s.tree i)

-- the number that falls
unfoldable pub falling : State → ℕ → ℕ → ℕ
falling s i k = credit s + round_size s.tree * mains s i k

-- ---- what the classes other than the root hold

-- the root holds the rest
pub credit_rest : (s : State) → total s.round.accounts ≡ funds_of (account_of s.round.accounts 0) + credit s
unfolding total credit
credit_rest s = refl

-- so they hold no more than the size in force, which is at most Q
pub credit_most : (s : State) → Sound s → credit s ≤ round_size s.tree
credit_most s sound = omega (arith, credit_rest s, sound.adds.adds, sound.fits.size.most)

-- and what the root gains they lose
pub credit_change : (s t : State) (c : ℕ) → total t.round.accounts ≡ total s.round.accounts
    → funds_of (account_of s.round.accounts 0) + c ≤ funds_of (account_of t.round.accounts 0) → credit t + c ≤ credit s
credit_change s t c same more = omega (arith, credit_rest s, credit_rest t, same, more)

-- a balance is part of it
pub balance_part : (s : State) (i : ℕ) → 1 ≤ i → i < 64 → balance_of s.round.accounts i ≤ credit s
unfolding credit
balance_part s i l u = omega (arith, sum_part (λ k. funds_of (account_of s.round.accounts k)) 63 i l (omega arith))

-- ---- the number that falls

-- the first packet is among the bytes up to a packet
pub first_part : (s : State) (i k : ℕ) → k < length (queue_at s i) → cost_of (first_of s i).length ≤ bytes_up_to s i k
unfolding bytes_up_to
first_part s i k h = bytes_first (queue_at s i) k h

module _ (s : State) (i k : ℕ) (h : Holds s i k) where
  -- the class of the packet
  pub holds_class : is_class s.tree i ≡ true
  holds_class = leaf_class_lem s.tree i h.sound.fits.tree h.low h.leaf

  pub holds_weight : 1 ≤ weight_of s.tree i
  holds_weight = (weight_range s.tree i (h.sound.fits.tree.each.weights i holds_class)).0

  -- a packet waits
  pub holds_some_lem : Waits s
  holds_some_lem = record { leaf = i; class = holds_class; is_leaf = h.leaf; holds = omega (arith, h.behind) }

  -- every packet costs something
  pub first_costs : 1 ≤ cost_of (first_of s i).length
  first_costs = cost_positive (first_of s i).length ((h.sound.holds i h.low).range h.leaf 0 (omega (arith, h.behind))).low

  -- Q is not 0
  size_some : 1 ≤ round_size s.tree
  unfolding round_size all_weights
  size_some =
      let r = class_range s.tree i holds_class in
      omega (arith, holds_weight, sum_part (weight_of s.tree) s.tree.count i r.0 r.1)

  -- while the packet waits the number is not 0
  pub falling_some : 1 ≤ falling s i k
  unfolding falling mains lacking
  falling_some = go (dec_le (bytes_up_to s i k) (balance_of s.round.accounts i))
    where
      part : balance_of s.round.accounts i ≤ credit s
      part = balance_part s i (class_range s.tree i holds_class).0 h.low

      bytes : 1 ≤ bytes_up_to s i k
      bytes = omega (arith, first_costs, first_part s i k h.behind)

      go : Dec (bytes_up_to s i k ≤ balance_of s.round.accounts i)
          → 1 ≤ credit s + round_size s.tree * over_rounded_up (bytes_up_to s i k - balance_of s.round.accounts i) (weight_of s.tree i)
      go (yes covers) = omega (arith, part, bytes)
      go (no covers) =
          let more = up_some (bytes_up_to s i k - balance_of s.round.accounts i) (weight_of s.tree i) holds_weight (omega arith) in
          omega (arith, mul-le-mul size_some more)

-- The laws of sets of classes, which other crates cite and never the digits: what is in a set, that it fits 64 bits, and that it is the
-- only one.
use mathlib.Core.Path.{◌≡◌, refl, sym, ap, ◌∙◌}
use mathlib.Core.Bool.{Bool, true, false, cond, not, ◌&&◌, true≢false}
use Prim.Native.Nat.{ℕ, zero, suc, ◌+◌, ◌-◌, ◌*◌, ◌/◌, ◌%◌, ◌^◌, ◌≤◌, ◌<◌, min}
use native.Mathlib.Decide.{ℕ_discrete, dec_le, dec_lt}
use native.Mathlib.Omega.{arith}
use borrow.Author.Tests.{eq-eqb, ne_eqb}
use lib.Bits.{bit_and, bit_or, and_le_l, or_lt}
use lib.Count.{count_trailing_zeros, trailing_le}
use lib.Dec.{eqb}
use lib.Pow.{pow_pos, pow-lt}
use Rattle.sets.specs.Set.{has, with, without, Both, Next}
use Rattle.sets.proofs.Bits.{bit, bit_small, bit_past, bit_of_zero, bit_ext, bit_and_lem, bit_shl_below, or_one_there, or_one_lacks}
use Rattle.sets.proofs.Bits.{bit_or_one_same, bit_or_one_other, sub_one_same, sub_one_other, bit_and_not_same, bit_and_not_other}
use Rattle.sets.proofs.Bits.{bit_not, mask_fits, bit_mask, trailing_below, trailing_there}

-- class k is in a set where digit k is 1, and only there
there : (s k : ℕ) → bit s k ≡ 1 → has s k ≡ true
unfolding has bit
there s k e = eq-eqb (bit s k) 1 e

lacks : (s k : ℕ) → bit s k ≡ 0 → has s k ≡ false
unfolding has bit
lacks s k e = ne_eqb (bit s k) 1 (λ q. omega arith)

alike : (a b k : ℕ) → bit a k ≡ bit b k → has a k ≡ has b k
unfolding has bit
alike a b k e = ap (λ (x : ℕ). eqb x 1) e

digit : (s k : ℕ) → bit s k ≡ cond (has s k) 1 0
unfolding has bit
digit s k = go (bit s k) (bit_small s k)
  where
    go : (x : ℕ) → x < 2 → x ≡ cond (eqb x 1) 1 0
    go zero l = refl
    go (suc zero) l = refl
    go (suc (suc x)) l = absurd (omega arith)

digits : (a b k : ℕ) → has a k ≡ has b k → bit a k ≡ bit b k
digits a b k e = digit a k ∙ ap (λ (x : Bool). cond x 1 0) e ∙ sym (digit b k)

-- `set | (1 << class)` is the set with the class
pub or_with : (s i : ℕ) → bit_or s (2 ^ i) ≡ with s i
unfolding with
or_with s i = go (has s i) (digit s i)
  where
    go : (b : Bool) → bit s i ≡ cond b 1 0 → bit_or s (2 ^ i) ≡ cond b s (s + 2 ^ i)
    go true e = or_one_there s i e
    go false e = or_one_lacks s i e

-- a class that is put in is in, each other class is as it was, and the set fits
pub has_with_same : (s i : ℕ) → has (with s i) i ≡ true
has_with_same s i = rw or_with at (there (bit_or s (2 ^ i)) i (bit_or_one_same s i))

pub has_with_other : (s i k : ℕ) → (k ≡ i → ⊥) → has (with s i) k ≡ has s k
has_with_other s i k ne = rw or_with at (alike (bit_or s (2 ^ i)) s k (bit_or_one_other s i k ne))

pub with_fits : (s i : ℕ) → s < 2 ^ 64 → i < 64 → with s i < 2 ^ 64
with_fits s i hs hi = rw or_with at (or_lt 64 s (2 ^ i) hs (pow-lt hi))

-- a class that is taken out is not in, each other class is as it was, and the set fits
bit_without_same : (s i : ℕ) → bit (without s i) i ≡ 0
unfolding without
bit_without_same s i = go (has s i) (digit s i)
  where
    go : (b : Bool) → bit s i ≡ cond b 1 0 → bit (cond b (s - 2 ^ i) s) i ≡ 0
    go true e = sub_one_same s i e
    go false e = e

bit_without_other : (s i k : ℕ) → (k ≡ i → ⊥) → bit (without s i) k ≡ bit s k
unfolding without
bit_without_other s i k ne = go (has s i) (digit s i)
  where
    go : (b : Bool) → bit s i ≡ cond b 1 0 → bit (cond b (s - 2 ^ i) s) k ≡ bit s k
    go true e = sub_one_other s i k e ne
    go false e = refl

pub has_without_same : (s i : ℕ) → has (without s i) i ≡ false
has_without_same s i = lacks (without s i) i (bit_without_same s i)

pub has_without_other : (s i k : ℕ) → (k ≡ i → ⊥) → has (without s i) k ≡ has s k
has_without_other s i k ne = alike (without s i) s k (bit_without_other s i k ne)

pub without_fits : (s i : ℕ) → s < 2 ^ 64 → without s i < 2 ^ 64
unfolding without
without_fits s i h = go (has s i)
  where
    go : (b : Bool) → cond b (s - 2 ^ i) s < 2 ^ 64
    go true = omega arith
    go false = h

-- a set has no class from 64 on, and the empty set has none
pub has_past : (s k : ℕ) → s < 2 ^ 64 → 64 ≤ k → has s k ≡ false
has_past s k h l = lacks s k (bit_past 64 s k h l)

pub has_empty : (k : ℕ) → has 0 k ≡ false
has_empty k = lacks 0 k (bit_of_zero k)

-- two sets with the same classes are one
pub set_ext : (a b : ℕ) → a < 2 ^ 64 → b < 2 ^ 64 → ((k : ℕ) → k < 64 → has a k ≡ has b k) → a ≡ b
set_ext a b ha hb e = bit_ext 64 a b ha hb (λ k l. digits a b k (e k l))

pub set_empty : (s : ℕ) → s < 2 ^ 64 → ((k : ℕ) → k < 64 → has s k ≡ false) → s ≡ 0
set_empty s h e = set_ext s 0 h (pow_pos 64) (λ k l. e k l ∙ sym (has_empty k))

-- `set & !(1 << class)` is the set without the class
pub and_without : (s i : ℕ) → s < 2 ^ 64 → i < 64 → bit_and s (2 ^ 64 - 1 - 2 ^ i) ≡ without s i
and_without s i hs hi =
    bit_ext 64 m (without s i) (omega (arith, and_le_l s (2 ^ 64 - 1 - 2 ^ i))) (without_fits s i hs) (λ k l. go k l (ℕ_discrete k i))
  where
    m : ℕ
    m = bit_and s (2 ^ 64 - 1 - 2 ^ i)

    go : (k : ℕ) → k < 64 → Dec (k ≡ i) → bit m k ≡ bit (without s i) k
    go k l (yes e) = rw e (bit_and_not_same s i hi ∙ sym (bit_without_same s i))
    go k l (no ne) = bit_and_not_other s i k hi l ne ∙ sym (bit_without_other s i k ne)

-- `!s` is the set of the classes that are not in s
pub has_not : (s k : ℕ) → s < 2 ^ 64 → k < 64 → has (2 ^ 64 - 1 - s) k ≡ not (has s k)
unfolding has bit
has_not s k h l = ap (λ (x : ℕ). eqb x 1) (bit_not 64 s k h l) ∙ go (bit s k) (bit_small s k)
  where
    go : (x : ℕ) → x < 2 → eqb (1 - x) 1 ≡ not (eqb x 1)
    go zero m = refl
    go (suc zero) m = refl
    go (suc (suc x)) m = absurd (omega arith)

-- `a & b` is the set of the classes of both
pub and_both : (a b : ℕ) → a < 2 ^ 64 → Both a b (bit_and a b)
unfolding has bit
and_both a b h = record {
  fits = omega (arith, and_le_l a b);
  both = common;
}
  where
    go : (x y : ℕ) → x < 2 → y < 2 → eqb (min x y) 1 ≡ (eqb x 1 && eqb y 1)
    go zero zero l m = refl
    go zero (suc zero) l m = refl
    go (suc zero) zero l m = refl
    go (suc zero) (suc zero) l m = refl
    go zero (suc (suc y)) l m = absurd (omega arith)
    go (suc zero) (suc (suc y)) l m = absurd (omega arith)
    go (suc (suc x)) y l m = absurd (omega arith)

    common : (k : ℕ) → has (bit_and a b) k ≡ (has a k && has b k)
    common k = ap (λ (x : ℕ). eqb x 1) (bit_and_lem a b k) ∙ go (bit a k) (bit b k) (bit_small a k) (bit_small b k)

-- so `Both` says one set
pub both_unique : (a b c c' : ℕ) → Both a b c → Both a b c' → c ≡ c'
both_unique a b c c' x y = set_ext c c' x.fits y.fits (λ k l. x.both k ∙ sym (y.both k))

-- the trailing zeros of `(set >> place) << place` are the next class
pub next_mask : (s p : ℕ) → s < 2 ^ 64 → p ≤ 64 → Next s p (count_trailing_zeros 64 (s / 2 ^ p * 2 ^ p % 2 ^ 64))
next_mask s p hs hp = rw (mask_fits s p hs) found
  where
    m : ℕ
    m = s / 2 ^ p * 2 ^ p

    t : ℕ
    t = count_trailing_zeros 64 m

    low : Dec (p ≤ t) → p ≤ t
    low (yes l) = l
    low (no l) =
        absurd (omega (arith, bit_shl_below (s / 2 ^ p) p t (omega arith), trailing_there 64 m (omega arith)))

    found : Next s p t
    found = record {
      low = low (dec_le p t);
      high = trailing_le 64 m;
      between = λ k l u. lacks s k (sym (bit_mask s p k l) ∙ trailing_below 64 m k u);
      found = λ l. there s t (sym (bit_mask s p t (low (dec_le p t))) ∙ trailing_there 64 m l);
    }

-- from the place 64 on there is none
pub next_end : (s p : ℕ) → p ≡ 64 → Next s p 64
next_end s p e = record {
  low = omega arith;
  high = omega arith;
  between = λ k l u. absurd (omega arith);
  found = λ l. absurd (omega arith);
}

-- so `Next` says one number
pub next_unique : (s p r r' : ℕ) → Next s p r → Next s p r' → r ≡ r'
next_unique s p r r' x y = go (dec_lt r r') (dec_lt r' r)
  where
    go : Dec (r < r') → Dec (r' < r) → r ≡ r'
    go (yes l) d = absurd (true≢false (sym (x.found (omega (arith, y.high))) ∙ y.between r x.low l))
    go (no l) (yes m) = absurd (true≢false (sym (y.found (omega (arith, x.high))) ∙ x.between r' y.low m))
    go (no l) (no m) = omega arith

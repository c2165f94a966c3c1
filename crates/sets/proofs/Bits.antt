-- The binary digits of a number, and what the machine's operations do to them: what the laws of sets stand on.
use mathlib.Core.Path.{◌≡◌, refl, sym, ap, ◌∙◌}
use Prim.Native.Nat.{ℕ, zero, suc, ◌+◌, ◌-◌, ◌*◌, ◌/◌, ◌%◌, ◌^◌, ◌≤◌, ◌<◌, min, max}
use native.Mathlib.Nat.{pow-suc, one-mul, div_self, div-eq_of_lt, div-mul-le_self, mod-eq_of_lt, div-div-eq-div-mul, mul_comm, add_comm}
use native.Mathlib.Nat.{add-div_right}
use native.Mathlib.Decide.{dec_lt}
use native.Mathlib.Numerals.{add-one}
use native.Mathlib.Omega.{arith}
use lib.Pow.{pow_pos, pow_mono, pow-lt, shr-shr, shl-shr}
use lib.Bits.{bit_and, bit_or, and_step, or_step, and_shr, or_shr, and_high, or_add_and, shifted_half, shifted_even}
use lib.Count.{count_trailing_zeros, under, trailing_le}

-- digit k of n
unfoldable pub bit : ℕ → ℕ → ℕ
bit n k = n / 2 ^ k % 2

pub bit_small : (n k : ℕ) → bit n k < 2
unfolding bit
bit_small n k = omega arith

-- the lowest digit, and the digits of the half
pub bit_lowest : (n : ℕ) → bit n zero ≡ n % 2
unfolding bit
bit_lowest n = omega arith

pub bit_half : (n k : ℕ) → bit n (suc k) ≡ bit (n / 2) k
unfolding bit
bit_half n k = rw (pow-suc, mul_comm, ← div-div-eq-div-mul)

-- a number has no digit from its size on
pub bit_past : (w n k : ℕ) → n < 2 ^ w → w ≤ k → bit n k ≡ 0
unfolding bit
bit_past w n k h l =
    let e : n / 2 ^ k ≡ 0 = div-eq_of_lt (omega (arith, pow_mono l)) in
    omega arith

pub bit_of_zero : (k : ℕ) → bit 0 k ≡ 0
bit_of_zero k = bit_past 0 0 k (pow_pos 0) (omega arith)

-- two numbers with the same digits are one
pub bit_ext : (w a b : ℕ) → a < 2 ^ w → b < 2 ^ w → ((k : ℕ) → k < w → bit a k ≡ bit b k) → a ≡ b
bit_ext zero a b ha hb e = omega arith
bit_ext (suc w) a b ha hb e =
    let ha' : a < 2 ^ w * 2 = rw pow-suc at ha in
    let hb' : b < 2 ^ w * 2 = rw pow-suc at hb in
    let lowest : a % 2 ≡ b % 2 = sym (bit_lowest a) ∙ e 0 (omega arith) ∙ bit_lowest b in
    let halves : a / 2 ≡ b / 2 =
    bit_ext w (a / 2) (b / 2) (omega arith) (omega arith) (λ k l. sym (bit_half a k) ∙ e (suc k) (omega arith) ∙ bit_half b k)
    in
    omega arith

-- `&` and `|`
pub bit_and_lem : (a b k : ℕ) → bit (bit_and a b) k ≡ min (bit a k) (bit b k)
unfolding bit
bit_and_lem a b k = rw and_shr (omega (arith, and_step (a / 2 ^ k) (b / 2 ^ k)))

pub bit_or_lem : (a b k : ℕ) → bit (bit_or a b) k ≡ max (bit a k) (bit b k)
unfolding bit
bit_or_lem a b k = rw or_shr (omega (arith, or_step (a / 2 ^ k) (b / 2 ^ k)))

-- `>>` and `<<`: what is shifted up has its own digits above and none below
pub bit_shr : (n p k : ℕ) → bit (n / 2 ^ p) k ≡ bit n (p + k)
unfolding bit
bit_shr n p k = rw shr-shr

pub bit_shl : (n p k : ℕ) → bit (n * 2 ^ p) (p + k) ≡ bit n k
bit_shl n p k = sym (bit_shr (n * 2 ^ p) p k) ∙ ap (λ (x : ℕ). bit x k) (shl-shr n p)

pub bit_shl_below : (n p k : ℕ) → k < p → bit (n * 2 ^ p) k ≡ 0
bit_shl_below n zero k h = absurd (omega arith)
bit_shl_below n (suc p) zero h = bit_lowest (n * 2 ^ suc p) ∙ shifted_even n p
bit_shl_below n (suc p) (suc k) h =
    bit_half (n * 2 ^ suc p) k ∙ ap (λ (x : ℕ). bit x k) (shifted_half n p) ∙ bit_shl_below n p k (omega arith)

-- `1 << i` has digit i alone
pub one_at : (i : ℕ) → i < 64 → 1 * 2 ^ i % 2 ^ 64 ≡ 2 ^ i
one_at i h = rw one-mul (mod-eq_of_lt (pow-lt h))

pub bit_one_same : (i : ℕ) → bit (2 ^ i) i ≡ 1
unfolding bit
bit_one_same i = ap (λ (x : ℕ). x % 2) (div_self (pow_pos i))

pub bit_one_other : (i k : ℕ) → (k ≡ i → ⊥) → bit (2 ^ i) k ≡ 0
bit_one_other i k ne = go (dec_lt k i)
  where
    go : Dec (k < i) → bit (2 ^ i) k ≡ 0
    go (yes l) = rw one-mul at (bit_shl_below 1 i k l)
    go (no l) = bit_past k (2 ^ i) k (pow-lt (omega arith)) (omega arith)

-- `!`
pub bit_not : (w a k : ℕ) → a < 2 ^ w → k < w → bit (2 ^ w - 1 - a) k ≡ 1 - bit a k
bit_not zero a k h l = absurd (omega arith)
bit_not (suc w) a zero h l =
    let h' : a < 2 ^ w * 2 = rw pow-suc at h in
    rw (pow-suc, bit_lowest (2 ^ w * 2 - 1 - a), bit_lowest a) (omega arith)
bit_not (suc w) a (suc k) h l =
    let h' : a < 2 ^ w * 2 = rw pow-suc at h in
    rw (bit_half (2 ^ suc w - 1 - a) k, bit_half a k)
    (ap (λ (x : ℕ). bit x k) (rw pow-suc (omega arith)) ∙ bit_not w (a / 2) k (omega arith) (omega arith))

-- `s & (1 << i)` is that digit of s, in its place
pub and_one : (s i : ℕ) → bit_and s (2 ^ i) ≡ bit s i * 2 ^ i
unfolding bit
and_one s i =
    let e : 2 ^ (1 + i) - 2 ^ i ≡ 2 ^ i = rw (add_comm, add-one, pow-suc) (omega arith) in
    rw e at (and_high s 1 i)

-- `s | (1 << i)` adds 2 ^ i where s lacks the digit
pub or_one_there : (s i : ℕ) → bit s i ≡ 1 → bit_or s (2 ^ i) ≡ s
or_one_there s i e = omega (arith, or_add_and s (2 ^ i), rw e at (and_one s i))

pub or_one_lacks : (s i : ℕ) → bit s i ≡ 0 → bit_or s (2 ^ i) ≡ s + 2 ^ i
or_one_lacks s i e = omega (arith, or_add_and s (2 ^ i), rw e at (and_one s i))

pub bit_or_one_same : (s i : ℕ) → bit (bit_or s (2 ^ i)) i ≡ 1
bit_or_one_same s i = rw (bit_or_lem, bit_one_same) (omega (arith, bit_small s i))

pub bit_or_one_other : (s i k : ℕ) → (k ≡ i → ⊥) → bit (bit_or s (2 ^ i)) k ≡ bit s k
bit_or_one_other s i k ne = rw (bit_or_lem, bit_one_other i k ne) (omega arith)

-- 2 ^ i taken from a number that has digit i clears that digit alone
sub_one_le : (s i : ℕ) → bit s i ≡ 1 → 2 ^ i ≤ s
sub_one_le s i e = go (dec_lt s (2 ^ i))
  where
    go : Dec (s < 2 ^ i) → 2 ^ i ≤ s
    go (yes l) = absurd (omega (arith, bit_past i s i l (omega arith)))
    go (no l) = omega arith

sub_one_back : (s i : ℕ) → bit s i ≡ 1 → s - 2 ^ i + 2 ^ i ≡ s
sub_one_back s i e = omega (arith, sub_one_le s i e)

pub sub_one_same : (s i : ℕ) → bit s i ≡ 1 → bit (s - 2 ^ i) i ≡ 0
unfolding bit
sub_one_same s i e = omega (arith, rw (sub_one_back s i e) at (add-div_right (s - 2 ^ i) (pow_pos i)))

pub sub_one_other : (s i k : ℕ) → bit s i ≡ 1 → (k ≡ i → ⊥) → bit (s - 2 ^ i) k ≡ bit s k
sub_one_other s i k e ne =
    let d = s - 2 ^ i in
    sym (bit_or_one_other d i k ne)
    ∙ ap (λ (x : ℕ). bit x k) (or_one_lacks d i (sub_one_same s i e) ∙ sub_one_back s i e)

-- `s & !(1 << i)`
pub bit_and_not_same : (s i : ℕ) → i < 64 → bit (bit_and s (2 ^ 64 - 1 - 2 ^ i)) i ≡ 0
bit_and_not_same s i h = rw (bit_and_lem, bit_not 64 (2 ^ i) i (pow-lt h) h, bit_one_same) (omega arith)

pub bit_and_not_other : (s i k : ℕ) → i < 64 → k < 64 → (k ≡ i → ⊥) → bit (bit_and s (2 ^ 64 - 1 - 2 ^ i)) k ≡ bit s k
bit_and_not_other s i k h l ne =
    rw (bit_and_lem, bit_not 64 (2 ^ i) k (pow-lt h) l, bit_one_other i k ne) (omega (arith, bit_small s k))

-- `(s >> p) << p` fits, and has the digits of s from p on
pub mask_fits : (s p : ℕ) → s < 2 ^ 64 → s / 2 ^ p * 2 ^ p % 2 ^ 64 ≡ s / 2 ^ p * 2 ^ p
mask_fits s p h = mod-eq_of_lt (omega (arith, div-mul-le_self s (2 ^ p)))

pub bit_mask : (s p k : ℕ) → p ≤ k → bit (s / 2 ^ p * 2 ^ p) k ≡ bit s k
bit_mask s p k h =
    let e : k ≡ p + (k - p) = omega arith in
    rw e (bit_shl (s / 2 ^ p) p (k - p) ∙ bit_shr s p (k - p))

-- the trailing zeros: the digits below are 0, and the one there is 1
pub trailing_below : (w n k : ℕ) → k < count_trailing_zeros w n → bit n k ≡ 0
unfolding count_trailing_zeros
trailing_below zero n k h = absurd (omega arith)
trailing_below (suc w) n zero h = go (n % 2) refl h
  where
    go : (d : ℕ) → n % 2 ≡ d → 0 < under d (count_trailing_zeros w (n / 2)) → bit n zero ≡ 0
    go zero e l = bit_lowest n ∙ e
    go (suc d) e l = absurd (omega arith)
trailing_below (suc w) n (suc k) h = go (trailing_below w (n / 2) k) (n % 2) h
  where
    go : (k < count_trailing_zeros w (n / 2) → bit (n / 2) k ≡ 0) → (d : ℕ) → suc k < under d (count_trailing_zeros w (n / 2)) → bit n (suc k) ≡ 0
    go below zero l = bit_half n k ∙ below (omega arith)
    go below (suc d) l = absurd (omega arith)

pub trailing_there : (w n : ℕ) → count_trailing_zeros w n < w → bit n (count_trailing_zeros w n) ≡ 1
unfolding count_trailing_zeros
trailing_there zero n h = absurd (omega arith)
trailing_there (suc w) n h = go (trailing_there w (n / 2)) (n % 2) refl h
  where
    go : (count_trailing_zeros w (n / 2) < w → bit (n / 2) (count_trailing_zeros w (n / 2)) ≡ 1)
        → (d : ℕ) → n % 2 ≡ d → under d (count_trailing_zeros w (n / 2)) < suc w → bit n (under d (count_trailing_zeros w (n / 2))) ≡ 1
    go there zero e l = bit_half n (count_trailing_zeros w (n / 2)) ∙ there (omega arith)
    go there (suc d) e l = bit_lowest n ∙ omega arith

-- their count fits a word
pub trailing_fits : (n : ℕ) → count_trailing_zeros 64 n < 2 ^ 64
trailing_fits n = omega (arith, trailing_le 64 n)

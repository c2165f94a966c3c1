-- A number read digit by digit is the number that the word is (R175).
use mathlib.Core.Bool.{Bool, true, false, ◌&&◌, cond, and-false}
use mathlib.Core.List.{List, [], ◌∷◌}
use mathlib.Core.Path.{◌≡◌, refl, sym, ap, ◌∙◌}
use Prim.Native.Nat.{ℕ, ◌+◌, ◌-◌, ◌*◌, ◌^◌, ◌≤◌, ◌<◌}
use native.Mathlib.Decide.{dec_lt}
use native.Mathlib.Nat.{pow-suc, one-le-pow, le-mul_of_pos_right}
use native.Mathlib.Omega.{arith}
use borrow.Author.Tests.{lt-ltb, le-ltb, le-leb}
use lib.Dec.{ltb}
use lib.ListN.{length}
use Rattle.std.specs.Prelude.{Option, Some, None}
use Rattle.words.specs.Word.{is_digit, all_digits, value_of, word_number}
use Rattle.words.specs.Step.{with_digit, all_more}

-- a byte within the bounds is a digit
pub digit_in : (b : ℕ) → 48 ≤ b → b ≤ 57 → is_digit b ≡ true
digit_in b low high = rw (le-leb 48 b low, le-leb b 57 high)

-- one byte more: no digit, a number that no longer fits, a number that fits
pub digit_none : (n b : ℕ) → is_digit b ≡ false → with_digit n b ≡ None
digit_none n b h = rw h

pub digit_over : (n b : ℕ) → 2 ^ 64 ≤ n * 10 + (b - 48) → with_digit n b ≡ None
digit_over n b h = rw (le-ltb (n * 10 + (b - 48)) (2 ^ 64) h, and-false)

pub digit_fits : (n b : ℕ) → is_digit b ≡ true → n * 10 + (b - 48) < 2 ^ 64 → with_digit n b ≡ Some (n * 10 + (b - 48))
digit_fits n b d h = rw (d, lt-ltb (n * 10 + (b - 48)) (2 ^ 64) h)

-- what was no number stays none
pub stays_none : (bs : List ℕ) → all_more None bs ≡ None
stays_none [] = refl
stays_none (b ∷ bs) = stays_none bs

-- a number and the digits after it
abbrev pub and_after : ℕ → List ℕ → ℕ
and_after n bs = n * 10 ^ length bs + value_of bs

-- what a number and the bytes after it come to
abbrev comes_to : ℕ → List ℕ → Option ℕ
comes_to n bs = cond (all_digits bs && ltb (and_after n bs) (2 ^ 64)) (Some (and_after n bs)) None

regroup : (n d p v : ℕ) → (n * 10 + d) * p + v ≡ n * (p * 10) + (d * p + v)
regroup n d p v = omega arith

-- the first digit after a number is the number's last
pub first_digit : (n b : ℕ) (bs : List ℕ) → and_after (n * 10 + (b - 48)) bs ≡ and_after n (b ∷ bs)
first_digit n b bs =
    regroup n (b - 48) (10 ^ length bs) (value_of bs)
    ∙ ap (λ (p : ℕ). n * p + ((b - 48) * 10 ^ length bs + value_of bs)) (sym (pow-suc 10 (length bs)))

-- digits after a number make it no smaller
no_smaller : (n : ℕ) (bs : List ℕ) → n ≤ and_after n bs
no_smaller n bs = omega (arith, le-mul_of_pos_right n (one-le-pow (length bs) 10 (omega arith)))

-- bytes read one by one after a number
read_after : (bs : List ℕ) (n : ℕ) → n < 2 ^ 64 → all_more (Some n) bs ≡ comes_to n bs
read_after [] n h =
    let same : and_after n [] ≡ n = omega arith in
    rw (same, lt-ltb n (2 ^ 64) h)
read_after (b ∷ bs) n h = go (is_digit b) refl (dec_lt (n * 10 + (b - 48)) (2 ^ 64)) (read_after bs (n * 10 + (b - 48)))
  where
    step : (number : Option ℕ) → with_digit n b ≡ number → all_more (Some n) (b ∷ bs) ≡ all_more number bs
    step number e = ap (λ (x : Option ℕ). all_more x bs) e

    go : (t : Bool) → is_digit b ≡ t → Dec (n * 10 + (b - 48) < 2 ^ 64)
        → (n * 10 + (b - 48) < 2 ^ 64 → all_more (Some (n * 10 + (b - 48))) bs ≡ comes_to (n * 10 + (b - 48)) bs)
        → all_more (Some n) (b ∷ bs) ≡ comes_to n (b ∷ bs)
    go false e fits rest = step None (digit_none n b e) ∙ stays_none bs ∙ sym (rw e)
    go true e (yes fits) rest = step (Some (n * 10 + (b - 48))) (digit_fits n b e fits) ∙ rest fits ∙ rw (first_digit n b bs, e)
    go true e (no over) rest =
        let large : 2 ^ 64 ≤ and_after n (b ∷ bs) = omega (arith, first_digit n b bs, no_smaller (n * 10 + (b - 48)) bs) in
        step None (digit_over n b (omega arith)) ∙ stays_none bs ∙ sym (rw (le-ltb (and_after n (b ∷ bs)) (2 ^ 64) large, and-false))

-- a word read from its first byte on
pub read_all : (text : List ℕ) → 0 < length text → all_more (Some 0) text ≡ word_number text
unfolding word_number
read_all [] h = absurd (omega arith)
read_all (b ∷ bs) h =
    let same : and_after 0 (b ∷ bs) ≡ value_of (b ∷ bs) = omega arith in
    read_after (b ∷ bs) 0 (omega arith) ∙ rw same

-- no byte at all is no number
pub read_empty : (text : List ℕ) → length text ≡ 0 → word_number text ≡ None
unfolding word_number
read_empty [] h = refl
read_empty (b ∷ bs) h = absurd (omega arith)

-- The decimal digits of a number (R166): the two rules that fix them, and what they are.
use mathlib.Core.List.{List, [], ◌∷◌, ◌++◌, append_assoc}
use mathlib.Core.Path.{◌≡◌, refl, sym, ap, ap₂, ◌∙◌, subst}
use Prim.Native.Nat.{ℕ, zero, suc, ◌+◌, ◌-◌, ◌*◌, ◌/◌, ◌%◌, ◌^◌, ◌≤◌, ◌<◌}
use native.Mathlib.Decide.{dec_lt}
use native.Mathlib.Nat.{pow-suc}
use native.Mathlib.Omega.{arith}
use borrow.Author.Tests.{lt-ltb, le-ltb}
use lib.ListN.{length, get_or, length-append, get_or-append}
use Rattle.digits.specs.Decimal.{digit, digits_in, decimal}
use Rattle.digits.specs.Laid.{two_digits, four_digits, eight_digits}

-- a number below 10 is one digit
in_small : (k n : ℕ) → n < 10 → digits_in (suc k) n ≡ digit n ∷ []
unfolding digits_in
in_small k n h = rw (digits_in, lt-ltb n 10 h)

-- any other is the digits of its tenth, then its last digit
in_large : (k n : ℕ) → 10 ≤ n → digits_in (suc k) n ≡ digits_in k (n / 10) ++ (digit (n % 10) ∷ [])
unfolding digits_in
in_large k n h = rw (digits_in, le-ltb n 10 h)

-- the last digit set after the others
abbrev after : ℕ → List ℕ → List ℕ
after n ds = ds ++ (digit (n % 10) ∷ [])

-- steps enough give the same digits
enough : (k j n : ℕ) → n < k → n < j → digits_in k n ≡ digits_in j n
enough zero j n h g = absurd (omega (arith, h))
enough (suc k) zero n h g = absurd (omega (arith, g))
enough (suc k) (suc j) n h g = go (enough k j (n / 10)) (dec_lt n 10)
  where
    go : (n / 10 < k → n / 10 < j → digits_in k (n / 10) ≡ digits_in j (n / 10)) → Dec (n < 10) → digits_in (suc k) n ≡ digits_in (suc j) n
    go rest (yes s) = in_small k n s ∙ sym (in_small j n s)
    go rest (no l) = in_large k n (omega arith) ∙ ap (after n) (rest (omega arith) (omega arith)) ∙ sym (in_large j n (omega arith))

-- the two rules of decimal digits
pub decimal_small : (n : ℕ) → n < 10 → decimal n ≡ digit n ∷ []
unfolding decimal
decimal_small n h = in_small n n h

pub decimal_large : (n : ℕ) → 10 ≤ n → decimal n ≡ decimal (n / 10) ++ (digit (n % 10) ∷ [])
unfolding decimal
decimal_large n h = in_large n n h ∙ ap (after n) (enough n (suc (n / 10)) (n / 10) (omega arith) (omega arith))

-- a number of two digits
pub decimal_two : (n : ℕ) → 10 ≤ n → n < 100 → decimal n ≡ two_digits n
decimal_two n l u = decimal_large n l ∙ ap (after n) (decimal_small (n / 10) (omega arith))

-- what cuts off the last digits cuts off twice as many, done twice
module _ (base : ℕ) (last : ℕ → List ℕ) (cut : (n : ℕ) → base ≤ n → decimal n ≡ decimal (n / base) ++ last (n % base)) where
  twice : (square n : ℕ) → base ≤ n → base ≤ n / base → n / base / base ≡ n / square
      → n / base % base ≡ n % square / base → n % base ≡ n % square % base
      → decimal n ≡ decimal (n / square) ++ (last (n % square / base) ++ last (n % square % base))
  twice square n h g high middle low =
      cut n h ∙ ap (λ (x : List ℕ). x ++ last (n % base)) (cut (n / base) g)
      ∙ append_assoc (decimal (n / base / base)) (last (n / base % base)) (last (n % base))
      ∙ ap₂ (λ (k m : ℕ). decimal k ++ (last m ++ last (n % base))) high middle
      ∙ ap (λ (m : ℕ). decimal (n / square) ++ (last (n % square / base) ++ last m)) low

-- two digits, four or eight after those of the upper part
pub decimal_by_two : (n : ℕ) → 100 ≤ n → decimal n ≡ decimal (n / 100) ++ two_digits (n % 100)
decimal_by_two n h =
    twice 10 (λ (d : ℕ). digit d ∷ []) decimal_large 100 n (omega arith) (omega arith) (omega arith) (omega arith) (omega arith)

pub decimal_by_four : (n : ℕ) → 10_000 ≤ n → decimal n ≡ decimal (n / 10_000) ++ four_digits (n % 10_000)
decimal_by_four n h = twice 100 two_digits decimal_by_two 10_000 n (omega arith) (omega arith) (omega arith) (omega arith) (omega arith)

pub decimal_by_eight : (n : ℕ) → 100_000_000 ≤ n → decimal n ≡ decimal (n / 100_000_000) ++ eight_digits (n % 100_000_000)
decimal_by_eight n h =
    twice 10_000 four_digits decimal_by_four 100_000_000 n (omega arith) (omega arith) (omega arith) (omega arith) (omega arith)

-- what holds of one digit, and goes on holding as a last digit is set after it, holds of all decimal digits
module _
    (P : ℕ → List ℕ → Type 0)
    (one : (n : ℕ) → n < 10 → P n (digit n ∷ []))
    (more : (n : ℕ) (ds : List ℕ) → 10 ≤ n → P (n / 10) ds → P n (after n ds)) where
  steps : (k n : ℕ) → n < k → P n (decimal n)
  steps zero n h = absurd (omega (arith, h))
  steps (suc k) n h = go (steps k (n / 10)) (dec_lt n 10)
    where
      go : (n / 10 < k → P (n / 10) (decimal (n / 10))) → Dec (n < 10) → P n (decimal n)
      go rest (yes s) = subst (P n) (sym (decimal_small n s)) (one n s)
      go rest (no l) = subst (P n) (sym (decimal_large n (omega arith))) (more n (decimal (n / 10)) (omega arith) (rest (omega arith)))

  by_digits : (n : ℕ) → P n (decimal n)
  by_digits n = steps (suc n) n (omega arith)

-- each byte is a digit, 48 to 57
abbrev pub AllDigits : List ℕ → Type 0
AllDigits [] = Unit
AllDigits (d ∷ ds) = (48 ≤ d) × (d ≤ 57) × AllDigits ds

-- one digit more
with_last : (ds : List ℕ) (d : ℕ) → 48 ≤ d → d ≤ 57 → AllDigits ds → AllDigits (ds ++ (d ∷ []))
with_last [] d low high all = (low, high, tt)
with_last (x ∷ ds) d low high all = (all.0, all.1, with_last ds d low high all.2)

-- so is each byte of the digits of n
pub decimal_digits : (n : ℕ) → AllDigits (decimal n)
decimal_digits n =
    by_digits (λ n ds. AllDigits ds) (λ n h. (omega arith, omega arith, tt))
    (λ n ds h all. with_last ds (digit (n % 10)) (omega arith) (omega arith) all) n

-- the number that digits stand for, after those read so far
abbrev pub value : ℕ → List ℕ → ℕ
value sofar [] = sofar
value sofar (d ∷ ds) = value (sofar * 10 + (d - 48)) ds

-- a last digit counts once, and those before it ten times
value_last : (sofar : ℕ) (ds : List ℕ) (d : ℕ) → value sofar (ds ++ (d ∷ [])) ≡ value sofar ds * 10 + (d - 48)
value_last sofar [] d = refl
value_last sofar (x ∷ ds) d = value_last (sofar * 10 + (x - 48)) ds d

-- the digits of n stand for n
pub decimal_value : (n : ℕ) → value 0 (decimal n) ≡ n
decimal_value n =
    by_digits (λ n ds. value 0 ds ≡ n) (λ n h. omega arith) (λ n ds h e. value_last 0 ds (digit (n % 10)) ∙ omega (arith, e)) n

-- there is at least one
pub decimal_some : (n : ℕ) → 1 ≤ length (decimal n)
decimal_some n =
    by_digits (λ n ds. 1 ≤ length ds) (λ n h. omega arith) (λ n ds h e. omega (arith, length-append ds (digit (n % 10) ∷ []))) n

-- no leading zero: 0 is the one digit 0, and any other number begins with another digit
pub decimal_zero : decimal 0 ≡ 48 ∷ []
decimal_zero = decimal_small 0 (omega arith)

pub decimal_leading : (n : ℕ) → 0 < n → (0 < length (decimal n)) × (48 < get_or (decimal n) 0 0)
decimal_leading n = by_digits (λ n ds. 0 < n → (0 < length ds) × (48 < get_or ds 0 0)) (λ n h some. (omega arith, omega arith)) more n
  where
    more : (n : ℕ) (ds : List ℕ) → 10 ≤ n → (0 < n / 10 → (0 < length ds) × (48 < get_or ds 0 0)) → 0 < n
        → (0 < length (after n ds)) × (48 < get_or (after n ds) 0 0)
    more n ds h rest some =
        let was = rest (omega arith) in (
          omega (arith, length-append ds (digit (n % 10) ∷ []), was.0),
          subst (λ (d : ℕ). 48 < d) (sym (get_or-append ds (digit (n % 10) ∷ []) 0 0 was.0)) was.1,
        )

-- a number below a power of 10 has at most that many digits
pub decimal_within : (n k : ℕ) → n < 10 ^ suc k → length (decimal n) ≤ suc k
decimal_within n = by_digits (λ n ds. (k : ℕ) → n < 10 ^ suc k → length ds ≤ suc k) (λ n h k w. omega arith) more n
  where
    more : (n : ℕ) (ds : List ℕ) → 10 ≤ n → ((k : ℕ) → n / 10 < 10 ^ suc k → length ds ≤ suc k) → (k : ℕ) → n < 10 ^ suc k
        → length (after n ds) ≤ suc k
    more n ds h rest zero w = absurd (omega arith)
    more n ds h rest (suc k) w =
        let w' : n < 10 ^ suc k * 10 = rw pow-suc at w in
        omega (arith, length-append ds (digit (n % 10) ∷ []), rest k (omega arith))

-- a 64-bit number has at most 20 digits
pub decimal_most : (n : ℕ) → n < 2 ^ 64 → length (decimal n) ≤ 20
decimal_most n h = decimal_within n 19 (omega arith)

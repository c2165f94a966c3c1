-- A text laid over a buffer from a place on: what the steps of laying a number or a line say.
use Rattle.std.specs.Prelude.{◌≡◌, List, [], ◌∷◌, ◌++◌, ℕ, ◌+◌, ◌/◌, ◌%◌, length, take, drop}
use Rattle.digits.specs.Decimal.{digit}

-- the buffer before the place, the text, the buffer after it
unfoldable pub over : ℕ → List ℕ → List ℕ → List ℕ
over at text before = take at before ++ text ++ drop (at + length text) before

-- the answer is the place after the text
abbrev pub LaidAt : ℕ → List ℕ → List ℕ → ℕ → List ℕ → Type 0
LaidAt at text before r after = (r ≡ at + length text) × (after ≡ over at text before)

-- a number below 100 in two digits, one below 10,000 in four, one below 100,000,000 in eight, leading zeros too
abbrev pub two_digits : ℕ → List ℕ
two_digits n = digit (n / 10) ∷ digit (n % 10) ∷ []

abbrev pub four_digits : ℕ → List ℕ
four_digits n = two_digits (n / 100) ++ two_digits (n % 100)

abbrev pub eight_digits : ℕ → List ℕ
eight_digits n = four_digits (n / 10_000) ++ four_digits (n % 10_000)

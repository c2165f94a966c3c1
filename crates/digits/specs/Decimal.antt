-- A number as its decimal digits, in ASCII bytes (R166).
use Rattle.std.specs.Prelude.{true, false, List, [], ◌∷◌, ◌++◌, ℕ, zero, suc, ◌+◌, ◌/◌, ◌%◌, ltb}

-- the byte of a digit: 0 is 48 (R166)
abbrev pub digit : ℕ → ℕ
digit d = 48 + d

-- the digits of n in at most k steps: a number below 10 is one digit; any other is the digits of its tenth, then its last digit (R166)
unfoldable pub digits_in : ℕ → ℕ → List ℕ
digits_in zero n = []
digits_in (suc k) n = elim (ltb n 10) [ true ↦ digit n ∷ [] | false ↦ digits_in k (n / 10) ++ (digit (n % 10) ∷ []) ]

-- the digits of n: n + 1 steps are enough (R166)
unfoldable pub decimal : ℕ → List ℕ
unfolding digits_in
decimal n = digits_in (suc n) n

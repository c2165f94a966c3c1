-- What a planner's words mean (R175, R177): a number, and CLASS=REQUEST.
use Rattle.std.specs.Prelude.{Bool, true, false, ◌&&◌, cond, eqb, List, [], ◌∷◌, ℕ, suc, ◌+◌, ◌-◌, ◌*◌, ◌^◌, leb, ltb, length, take, drop, Option, Some, None}

-- a byte that is an ASCII digit: `0` is 48, `9` is 57 (R175)
abbrev pub is_digit : ℕ → Bool
is_digit b = leb 48 b && leb b 57

-- every byte is a digit (R175)
abbrev pub all_digits : List ℕ → Bool
all_digits [] = true
all_digits (b ∷ bs) = is_digit b && all_digits bs

-- one digit or more, and no other byte (R175)
abbrev pub digits : List ℕ → Bool
digits [] = false
digits (b ∷ bs) = all_digits (b ∷ bs)

-- what digits stand for: each counts ten times for each digit after it, so leading zeros count for nothing (R175)
abbrev pub value_of : List ℕ → ℕ
value_of [] = 0
value_of (d ∷ ds) = (d - 48) * 10 ^ length ds + value_of ds

-- a number: one digit or more, of a value below 2 to the power 64 (R175)
unfoldable pub word_number : List ℕ → Option ℕ
word_number text = cond (digits text && ltb (value_of text) (2 ^ 64)) (Some (value_of text)) None

-- the place of the first such byte; the length where there is none
unfoldable pub index_after : Bool → ℕ → ℕ
index_after true rest = 0
index_after false rest = suc rest

unfoldable pub index_of : ℕ → List ℕ → ℕ
index_of byte [] = 0
index_of byte (b ∷ bs) = index_after (eqb b byte) (index_of byte bs)

-- a class and a request: two numbers, the class at most 63 (R177)
abbrev pub asks : Option ℕ → Option ℕ → Option (ℕ × ℕ)
asks None _ = None
asks (Some class) None = None
asks (Some class) (Some request) = cond (leb class 63) (Some (class, request)) None

-- CLASS=REQUEST: the number before the first `=`, which is 61, and the number after it; without `=` nothing comes after it, which is no
-- number (R177)
unfoldable pub pair_of : List ℕ → Option (ℕ × ℕ)
pair_of text = asks (word_number (take (index_of 61 text) text)) (word_number (drop (index_of 61 text + 1) text))

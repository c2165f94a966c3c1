-- A number read digit by digit: what the steps of the code say.
use Rattle.std.specs.Prelude.{◌&&◌, cond, List, [], ◌∷◌, ℕ, ◌+◌, ◌-◌, ◌*◌, ◌^◌, ltb, Option, Some, None}
use Rattle.words.specs.Word.{is_digit}

-- a number so far, and one byte more
abbrev pub with_digit : ℕ → ℕ → Option ℕ
with_digit sofar b = cond (is_digit b && ltb (sofar * 10 + (b - 48)) (2 ^ 64)) (Some (sofar * 10 + (b - 48))) None

abbrev pub one_more : Option ℕ → ℕ → Option ℕ
one_more None b = None
one_more (Some sofar) b = with_digit sofar b

-- and all the bytes that are left
abbrev pub all_more : Option ℕ → List ℕ → Option ℕ
all_more number [] = number
all_more number (b ∷ bs) = all_more (one_more number b) bs

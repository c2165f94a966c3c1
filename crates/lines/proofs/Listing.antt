-- The listing byte by byte (R165 to R172), and lines that it lacks: a refused arrival, a stop, the largest number, a rate, why leaves are
-- silent.
use mathlib.Core.List.{List, [], ◌∷◌, map}
use mathlib.Core.Path.{◌≡◌, refl}
use Prim.Native.Nat.{ℕ}
use Rattle.digits.specs.Decimal.{digits_in, decimal}
use Rattle.lines.specs.declared.Line.{Line}
use Rattle.lines.specs.declared.Line.TheVariants.{Link, In, No, Out, Nothing, End, Stop, Rate, Silent, NotTold}
use Rattle.lines.specs.declared.Why.TheVariants.{Empty, Waits, Short, Due}
use Rattle.lines.specs.Line.{bytes_of}

abbrev run : List Line
run =
    Link 4 262
    ∷ In 2 2 1 84
    ∷ In 3 10 2 84
    ∷ In 3 10 3 168
    ∷ In 4 10 4 84
    ∷ Out 4 10 4 1 84
    ∷ Out 2 2 1 1 168
    ∷ Out 3 10 2 0 252
    ∷ Out 3 10 3 0 336
    ∷ Nothing
    ∷ End 0
    ∷ []

abbrev run_bytes : List (List ℕ)
run_bytes =
    -- link 4 262
    (108 ∷ 105 ∷ 110 ∷ 107 ∷ 32 ∷ 52 ∷ 32 ∷ 50 ∷ 54 ∷ 50 ∷ 10 ∷ [])
    -- in 2 2 1 84
    ∷ (105 ∷ 110 ∷ 32 ∷ 50 ∷ 32 ∷ 50 ∷ 32 ∷ 49 ∷ 32 ∷ 56 ∷ 52 ∷ 10 ∷ [])
    -- in 3 10 2 84
    ∷ (105 ∷ 110 ∷ 32 ∷ 51 ∷ 32 ∷ 49 ∷ 48 ∷ 32 ∷ 50 ∷ 32 ∷ 56 ∷ 52 ∷ 10 ∷ [])
    -- in 3 10 3 168
    ∷ (105 ∷ 110 ∷ 32 ∷ 51 ∷ 32 ∷ 49 ∷ 48 ∷ 32 ∷ 51 ∷ 32 ∷ 49 ∷ 54 ∷ 56 ∷ 10 ∷ [])
    -- in 4 10 4 84
    ∷ (105 ∷ 110 ∷ 32 ∷ 52 ∷ 32 ∷ 49 ∷ 48 ∷ 32 ∷ 52 ∷ 32 ∷ 56 ∷ 52 ∷ 10 ∷ [])
    -- out 4 10 4 1 84
    ∷ (111 ∷ 117 ∷ 116 ∷ 32 ∷ 52 ∷ 32 ∷ 49 ∷ 48 ∷ 32 ∷ 52 ∷ 32 ∷ 49 ∷ 32 ∷ 56 ∷ 52 ∷ 10 ∷ [])
    -- out 2 2 1 1 168
    ∷ (111 ∷ 117 ∷ 116 ∷ 32 ∷ 50 ∷ 32 ∷ 50 ∷ 32 ∷ 49 ∷ 32 ∷ 49 ∷ 32 ∷ 49 ∷ 54 ∷ 56 ∷ 10 ∷ [])
    -- out 3 10 2 0 252
    ∷ (111 ∷ 117 ∷ 116 ∷ 32 ∷ 51 ∷ 32 ∷ 49 ∷ 48 ∷ 32 ∷ 50 ∷ 32 ∷ 48 ∷ 32 ∷ 50 ∷ 53 ∷ 50 ∷ 10 ∷ [])
    -- out 3 10 3 0 336
    ∷ (111 ∷ 117 ∷ 116 ∷ 32 ∷ 51 ∷ 32 ∷ 49 ∷ 48 ∷ 32 ∷ 51 ∷ 32 ∷ 48 ∷ 32 ∷ 51 ∷ 51 ∷ 54 ∷ 10 ∷ [])
    -- none
    ∷ (110 ∷ 111 ∷ 110 ∷ 101 ∷ 10 ∷ [])
    -- end 0
    ∷ (101 ∷ 110 ∷ 100 ∷ 32 ∷ 48 ∷ 10 ∷ [])
    ∷ []

listing : map bytes_of run ≡ run_bytes
unfolding bytes_of decimal digits_in
listing = refl

-- a refused arrival: `no 4 11 4294967295 13`
refused_arrival : bytes_of (No 4 11 4294967295 13)
    ≡ 110 ∷ 111 ∷ 32 ∷ 52 ∷ 32 ∷ 49 ∷ 49 ∷ 32 ∷ 52 ∷ 50 ∷ 57 ∷ 52 ∷ 57 ∷ 54 ∷ 55 ∷ 50 ∷ 57 ∷ 53 ∷ 32 ∷ 49 ∷ 51 ∷ 10 ∷ []
unfolding bytes_of decimal digits_in
refused_arrival = refl

-- a stop: `stop 10 65536`
stopped : bytes_of (Stop 10 65536) ≡ 115 ∷ 116 ∷ 111 ∷ 112 ∷ 32 ∷ 49 ∷ 48 ∷ 32 ∷ 54 ∷ 53 ∷ 53 ∷ 51 ∷ 54 ∷ 10 ∷ []
unfolding bytes_of decimal digits_in
stopped = refl

-- the largest 64-bit number: `end 18446744073709551615`
largest_number : bytes_of (End 18446744073709551615)
    ≡ 101 ∷ 110 ∷ 100 ∷ 32 ∷ 49 ∷ 56 ∷ 52 ∷ 52 ∷ 54 ∷ 55 ∷ 52 ∷ 52 ∷ 48 ∷ 55 ∷ 51 ∷ 55 ∷ 48 ∷ 57 ∷ 53 ∷ 53 ∷ 49 ∷ 54 ∷ 49 ∷ 53 ∷ 10 ∷ []
unfolding bytes_of decimal digits_in
largest_number = refl

-- a rate: `rate 1 200 42 0`
rated : bytes_of (Rate 1 200 42 0) ≡ 114 ∷ 97 ∷ 116 ∷ 101 ∷ 32 ∷ 49 ∷ 32 ∷ 50 ∷ 48 ∷ 48 ∷ 32 ∷ 52 ∷ 50 ∷ 32 ∷ 48 ∷ 10 ∷ []
unfolding bytes_of decimal digits_in
rated = refl

-- why leaves are silent
abbrev told : List Line
told = Silent 2 Empty 0 ∷ Silent 3 Waits 0 ∷ Silent 4 Short 47 ∷ Silent 5 Due 0 ∷ NotTold 1 12 ∷ []

abbrev told_bytes : List (List ℕ)
told_bytes =
    -- silent 2 empty 0
    (115 ∷ 105 ∷ 108 ∷ 101 ∷ 110 ∷ 116 ∷ 32 ∷ 50 ∷ 32 ∷ 101 ∷ 109 ∷ 112 ∷ 116 ∷ 121 ∷ 32 ∷ 48 ∷ 10 ∷ [])
    -- silent 3 waits 0
    ∷ (115 ∷ 105 ∷ 108 ∷ 101 ∷ 110 ∷ 116 ∷ 32 ∷ 51 ∷ 32 ∷ 119 ∷ 97 ∷ 105 ∷ 116 ∷ 115 ∷ 32 ∷ 48 ∷ 10 ∷ [])
    -- silent 4 short 47
    ∷ (115 ∷ 105 ∷ 108 ∷ 101 ∷ 110 ∷ 116 ∷ 32 ∷ 52 ∷ 32 ∷ 115 ∷ 104 ∷ 111 ∷ 114 ∷ 116 ∷ 32 ∷ 52 ∷ 55 ∷ 10 ∷ [])
    -- silent 5 due 0
    ∷ (115 ∷ 105 ∷ 108 ∷ 101 ∷ 110 ∷ 116 ∷ 32 ∷ 53 ∷ 32 ∷ 100 ∷ 117 ∷ 101 ∷ 32 ∷ 48 ∷ 10 ∷ [])
    -- no 1 12
    ∷ (110 ∷ 111 ∷ 32 ∷ 49 ∷ 32 ∷ 49 ∷ 50 ∷ 10 ∷ [])
    ∷ []

reasons : map bytes_of told ≡ told_bytes
unfolding bytes_of decimal digits_in
reasons = refl

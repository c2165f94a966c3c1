-- The lines that a program prints (R165, R167 to R174, R218): a word, its numbers, each after one space, and the end of the line.
use Rattle.std.specs.Prelude.{◌≡◌, List, [], ◌∷◌, ◌++◌, ℕ, length, drop}
use Rattle.digits.specs.Decimal.{decimal}
use Rattle.lines.specs.declared.Line.{Line}
use Rattle.lines.specs.declared.Line.TheVariants.{Link, In, No, Out, Nothing, End, Stop, Rate, Silent, NotTold}
use Rattle.lines.specs.declared.Why.{Why}
use Rattle.lines.specs.declared.Why.TheVariants.{Empty, Waits, Short, Due}

-- one space, then a number (R165)
abbrev pub spaced : ℕ → List ℕ
spaced n = 32 ∷ decimal n

-- each number after one space (R165)
abbrev pub spaced_numbers : List ℕ → List ℕ
spaced_numbers [] = []
spaced_numbers (n ∷ ns) = spaced n ++ spaced_numbers ns

-- a word, its numbers, the end of the line (R165)
abbrev pub text_of : List ℕ → List ℕ → List ℕ
text_of word ns = word ++ spaced_numbers ns ++ (10 ∷ [])

-- one space, then the word of a reason: `empty`, `waits`, `short` or `due` (R218)
abbrev pub why_text : Why → List ℕ
why_text Empty = 32 ∷ 101 ∷ 109 ∷ 112 ∷ 116 ∷ 121 ∷ []
why_text Waits = 32 ∷ 119 ∷ 97 ∷ 105 ∷ 116 ∷ 115 ∷ []
why_text Short = 32 ∷ 115 ∷ 104 ∷ 111 ∷ 114 ∷ 116 ∷ []
why_text Due = 32 ∷ 100 ∷ 117 ∷ 101 ∷ []

-- the bytes of a line, its word in ASCII (R167 to R174, R218)
unfoldable pub bytes_of : Line → List ℕ
-- `link` (R167)
bytes_of (Link classes size) = text_of (108 ∷ 105 ∷ 110 ∷ 107 ∷ []) (classes ∷ size ∷ [])
-- `in` (R168)
bytes_of (In class len tag bytes) = text_of (105 ∷ 110 ∷ []) (class ∷ len ∷ tag ∷ bytes ∷ [])
-- `no` (R169)
bytes_of (No class len tag number) = text_of (110 ∷ 111 ∷ []) (class ∷ len ∷ tag ∷ number ∷ [])
-- `out` (R170, R314)
bytes_of (Out class len tag rounds waited) = text_of (111 ∷ 117 ∷ 116 ∷ []) (class ∷ len ∷ tag ∷ rounds ∷ waited ∷ [])
-- `none` (R171)
bytes_of Nothing = text_of (110 ∷ 111 ∷ 110 ∷ 101 ∷ []) []
-- `end` (R172)
bytes_of (End waiting) = text_of (101 ∷ 110 ∷ 100 ∷ []) (waiting ∷ [])
-- `stop` (R173)
bytes_of (Stop number place) = text_of (115 ∷ 116 ∷ 111 ∷ 112 ∷ []) (number ∷ place ∷ [])
-- `rate` (R174)
bytes_of (Rate class request gets unallotted) = text_of (114 ∷ 97 ∷ 116 ∷ 101 ∷ []) (class ∷ request ∷ gets ∷ unallotted ∷ [])
-- `silent`, whose reason stands between its numbers (R218)
bytes_of (Silent class why lacks) = text_of ((115 ∷ 105 ∷ 108 ∷ 101 ∷ 110 ∷ 116 ∷ []) ++ spaced class ++ why_text why) (lacks ∷ [])
-- `no`, where no reason is told (R218)
bytes_of (NotTold class number) = text_of (110 ∷ 111 ∷ []) (class ∷ number ∷ [])

-- the room that a buffer must have for one more line: no line has more bytes (R203)
abbrev pub line_room : ℕ
line_room = 112

-- the answer is the line's length, and the buffer holds the line and then what it held from there on before
abbrev pub Lays : Line → List ℕ → ℕ → List ℕ → Type 0
Lays line before r after = (r ≡ length (bytes_of line)) × (after ≡ bytes_of line ++ drop (length (bytes_of line)) before)

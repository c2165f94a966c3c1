-- What laying a line allows: one outcome, whose first bytes are the line's.
use mathlib.Core.List.{List}
use mathlib.Core.Path.{◌≡◌, sym, ap₂, ◌∙◌}
use Prim.Native.Nat.{ℕ}
use lib.ListN.{take, drop, length}
use lib.Seq.{take-append_seam}
use Rattle.lines.specs.declared.Line.{Line}
use Rattle.lines.specs.Line.{bytes_of, Lays}

-- any two outcomes that the contract allows are equal
pub lay_one_answer : (line : Line) (before after after' : List ℕ) (r r' : ℕ) → Lays line before r after → Lays line before r' after'
    → (r ≡ r') × (after ≡ after')
lay_one_answer line before after after' r r' one other = (one.0 ∙ sym other.0, one.1 ∙ sym other.1)

-- the part of the buffer that the answer counts is the line
pub line_laid : (line : Line) (before after : List ℕ) (r : ℕ) → Lays line before r after → take r after ≡ bytes_of line
line_laid line before after r laid = ap₂ take laid.0 laid.1 ∙ take-append_seam (bytes_of line) (drop (length (bytes_of line)) before)

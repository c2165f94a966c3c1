-- The line of a class (R218): why it is silent, or that it is no leaf. Demand 2.
use Rattle.checks.specs.Check.{number}
use Rattle.std.specs.Prelude.{◌≡◌, ℕ, Ok, Err}
use Rattle.state.specs.declared.Link.{Link}
use Rattle.reasons.specs.declared.Reason.{Reason}
use Rattle.reasons.specs.declared.Reason.TheVariants.{Empty, Waits, Short, Due}
use Rattle.reasons.specs.Answer.{Silence}
use Rattle.reasons.specs.Answer.{SaysWhy}
use Rattle.lines.specs.declared.Line.{Line}
use Rattle.lines.specs.declared.Line.TheVariants.{Silent, NotTold}
use Rattle.lines.specs.declared.Why.TheVariants.{Empty as EmptyWord, Waits as WaitsWord, Short as ShortWord, Due as DueWord}

-- `silent` class reason bytes, the bytes 0 but for a leaf that is short (R218)
abbrev pub reason_line : ℕ → Reason → Line
reason_line class Empty = Silent class EmptyWord 0
reason_line class Waits = Silent class WaitsWord 0
reason_line class (Short n) = Silent class ShortWord n.0
reason_line class Due = Silent class DueWord 0

-- or `no` class number (R218)
abbrev pub silence_line : ℕ → Silence → Line
silence_line class (Ok reason) = reason_line class reason
silence_line class (Err e) = NotTold class (number e.0)

-- the line of a class, on any record: that of what `reasons::why` answers (R218)
pub record Tells (l : Link) (class : ℕ) (r : Line) : Type 0 where
  pub silence : Silence
  pub why : SaysWhy l class silence
  pub says : r ≡ silence_line class silence

-- The texts of a line laid over a buffer: what the steps of laying a line cite.
use mathlib.Core.List.{List, [], ◌∷◌, append_assoc}
use mathlib.Core.Path.{◌≡◌, sym, ap, ◌∙◌}
use Prim.Native.Nat.{ℕ, ◌+◌, ◌≤◌}
use native.Mathlib.Nat.{zero-add}
use lib.ListN.{length}
use lib.Seq.{length-take-le}
use Rattle.io.specs.Counts.{IsPrefixLen}
use Rattle.digits.specs.Laid.{LaidAt}
use Rattle.digits.proofs.Laying.{over_start, laid_same, laid_as}
use Rattle.lines.specs.declared.Line.{Line}
use Rattle.lines.specs.declared.Why.{Why}
use Rattle.lines.specs.Line.{spaced_numbers, text_of, why_text, bytes_of, Lays}
use Rattle.lines.specs.Laid.{end_of}

-- a text before the last numbers of a line
pub laid_end : (at : ℕ) (t ns b c d : List ℕ) (m r : ℕ) → at + length t ≤ length b → LaidAt at t b m c → LaidAt m (end_of ns) c r d
    → LaidAt at (text_of t ns) b r d
unfolding end_of
laid_end at t ns b c d m r = laid_as at t (end_of ns) (text_of t ns) b c d m r (append_assoc t (spaced_numbers ns) (10 ∷ []))

-- a line's bytes laid, by its case
pub line_at : (at : ℕ) (line same : Line) (b d : List ℕ) (r : ℕ) → line ≡ same → LaidAt at (bytes_of same) b r d
    → LaidAt at (bytes_of line) b r d
line_at at line same b d r e = laid_same at (bytes_of same) (bytes_of line) b d r (ap bytes_of e)

-- the word of a reason laid, by its case
pub why_at : (at : ℕ) (why same : Why) (b d : List ℕ) (r : ℕ) → why ≡ same → LaidAt at (why_text same) b r d → LaidAt at (why_text why) b r d
why_at at why same b d r e = laid_same at (why_text same) (why_text why) b d r (ap why_text e)

-- a text laid at the start
pub lays : (line : Line) (b d : List ℕ) (r : ℕ) → LaidAt 0 (bytes_of line) b r d → Lays line b r d
lays line b d r laid = (laid.0 ∙ zero-add (length (bytes_of line)), laid.1 ∙ over_start (bytes_of line) b)

-- what was laid within a buffer can be lent
pub counts : (r : ℕ) (out : List ℕ) → r ≤ length out → IsPrefixLen r out
counts r out h = (h, sym (length-take-le r out h))

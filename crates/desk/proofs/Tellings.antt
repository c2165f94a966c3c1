-- The line of a class is one (R218).
use mathlib.Core.Path.{◌≡◌, sym, ap, ◌∙◌}
use Prim.Native.Nat.{ℕ}
use Rattle.state.specs.declared.Link.{Link}
use Rattle.reasons.proofs.OneReason.{one_answer}
use Rattle.lines.specs.declared.Line.{Line}
use Rattle.desk.specs.Told.{silence_line, Tells}

pub line_one_answer : (l : Link) (class : ℕ) (r r' : Line) → Tells l class r → Tells l class r' → r ≡ r'
line_one_answer l class r r' x y =
    x.says ∙ ap (silence_line class) (one_answer l class x.silence y.silence x.why y.why) ∙ sym y.says

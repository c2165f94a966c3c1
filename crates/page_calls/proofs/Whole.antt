-- A run whose events were laid to its end: its first line and the lines of its events are what the program prints. Demands 1 and 2.
use mathlib.Core.Bool.{Bool, true, false, cond}
use mathlib.Core.List.{List, [], ◌∷◌, ◌++◌}
use mathlib.Core.Path.{◌≡◌, refl, sym, ap, ◌∙◌}
use Prim.Native.Nat.{ℕ}
use native.Mathlib.Omega.{arith}
use lib.ListN.{get_or, take}
use Rattle.lines.specs.Line.{bytes_of, Lays}
use Rattle.lines.proofs.Outcomes.{line_laid}
use Rattle.run.specs.Run.{program_lines, program_begins}
use Rattle.run.proofs.Lines.{following, lines_first}
use Rattle.parts.specs.Part.{last, laid_by, printed}
use Rattle.parts.proofs.Parts.{text_more, text_none, program_lines_lem}
use Rattle.page_calls.specs.Calls.{EventsBy, Events}

-- a part that says 0 has ended its run
ended : (more : Bool) → ◌≡◌ {A = ℕ} (cond more 1 0) 0 → more ≡ false
ended true e = absurd (omega (arith, e))
ended false e = refl

pub whole_run : (input room : List ℕ) (n : ℕ) (first before said after : List ℕ) → Lays (program_begins input).line room n first
    → Events input before said after → get_or said 1 0 ≡ 0 → take n first ++ take (get_or said 0 0) after ≡ printed (program_lines input)
unfolding laid_by following
whole_run input room n first before said after l e over =
    ap (λ (s : List ℕ). s ++ take (get_or said 0 0) after) (line_laid (program_begins input).line room first n l)
    ∙ go (program_begins input).more refl e
  where
    go : (more : Bool) → (program_begins input).more ≡ more → EventsBy more (program_begins input) input before said after
        → bytes_of (program_begins input).line ++ take (get_or said 0 0) after ≡ printed (program_lines input)
    go true m p =
        let done = ended p.answer.more (sym (ap (λ (s : List ℕ). get_or s 1 0) p.says) ∙ over) in
        ap (λ (s : List ℕ). bytes_of (program_begins input).line ++ take (get_or s 0 0) after) p.says
        ∙ program_lines_lem input m (last _ _ before p.answer after p.rules done)
    go false m p =
        let s = program_begins input in
        let no_more = ap (λ (b : Bool). s.line ∷ following s.link input s.place b) m in
        ap (λ (x : List ℕ). bytes_of s.line ++ take (get_or x 0 0) after) p.0
        ∙ sym (ap printed (lines_first input ∙ no_more) ∙ text_more s.line [] ∙ ap (λ (x : List ℕ). bytes_of s.line ++ x) text_none)

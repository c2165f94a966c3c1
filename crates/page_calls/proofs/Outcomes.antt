-- Each call of the page has one outcome: any two that its contract allows are equal, answer and arrays. Demands 1 to 3.
use mathlib.Core.Bool.{Bool, true, false}
use mathlib.Core.List.{List, [], ◌∷◌}
use mathlib.Core.Path.{◌≡◌, sym, ap, ap₂, subst, ◌∙◌}
use Prim.Native.Nat.{ℕ}
use Rattle.checks.specs.Check.{number_of}
use Rattle.tree.specs.declared.Tree.{Tree}
use Rattle.std.specs.Prelude.{Option, unwrap_or}
use Rattle.units.specs.declared.Bytes.{Bytes}
use Rattle.shape.proofs.Children.{plan_size_one_answer}
use Rattle.written.specs.declared.Written.{Written}
use Rattle.written.proofs.Answers as written-answers
use Rattle.asked.specs.declared.Answer.{Answer}
use Rattle.asked.proofs.Outcomes as asked-outcomes
use Rattle.promised.specs.declared.Promised.{Promised}
use Rattle.promised.proofs.Kept.{promise_one_answer}
use Rattle.run.specs.declared.Step.{Step}
use Rattle.run.specs.Run.{program_begins}
use Rattle.parts.proofs.Parts.{part_one_answer}
use Rattle.lines.specs.Line.{Lays}
use Rattle.lines.proofs.Outcomes.{lay_one_answer}
use Rattle.desk.proofs.Tellings.{line_one_answer}
use Rattle.page_calls.specs.Kept.{said_of}
use Rattle.page_calls.specs.Calls.{Opens, WritesTree, MendsPlan, RatesOf, WaitsOf, BoundOf, part_says, EventsBy, Events, TellsWhy}

-- two things that are equal to one
both : {A : Type 0} {x y z : A} → x ≡ z → y ≡ z → x ≡ y
both e f = e ∙ sym f

pub open_one_answer : {input : List ℕ} {n n' : ℕ} {said said' numbers numbers' size size' : List ℕ}
    {parent parent' weight weight' longest longest' : List ℕ}
    → Opens input n said numbers size parent weight longest → Opens input n' said' numbers' size' parent' weight' longest'
    → (n ≡ n') × (said ≡ said') × (numbers ≡ numbers') × (size ≡ size') × (parent ≡ parent') × (weight ≡ weight') × (longest ≡ longest')
open_one_answer a b = (
  both a.answers b.answers,
  both a.verdict b.verdict,
  both a.tree b.tree,
  a.whole ∙ ap (λ (j : Option Bytes). (unwrap_or j (record { 0 = 0 })).0 ∷ []) (plan_size_one_answer _ _ _ a.sizes b.sizes) ∙ sym b.whole,
  both a.parents b.parents,
  both a.weights b.weights,
  both a.longests b.longests,
)

pub write_one_answer : {t : Tree} {before : List ℕ} {n n' : ℕ} {said said' after after' : List ℕ} → WritesTree t before n said after
    → WritesTree t before n' said' after' → (n ≡ n') × (said ≡ said') × (after ≡ after')
write_one_answer a b =
    let e = written-answers.one_answer _ _ _ _ _ _ a.rules b.rules in (
      a.answers ∙ ap (λ (w : Written). number_of w.verdict) e.0 ∙ sym b.answers,
      a.verdict ∙ ap (λ (w : Written). said_of w.verdict w.used) e.0 ∙ sym b.verdict,
      e.1,
    )

pub mend_one_answer : {input : List ℕ} {n n' : ℕ} {said said' count count' class class' old old' new new' : List ℕ}
    → MendsPlan input n said count class old new → MendsPlan input n' said' count' class' old' new'
    → (n ≡ n') × (said ≡ said') × (count ≡ count') × (class ≡ class') × (old ≡ old') × (new ≡ new')
mend_one_answer a b = (
  both a.answers b.answers,
  both a.verdict b.verdict,
  both a.counted b.counted,
  both a.classes b.classes,
  both a.olds b.olds,
  both a.news b.news,
)

pub rates_one_answer : {input : List ℕ} {capacity : ℕ} {asked : List ℕ} {n n' : ℕ}
    {said said' requests requests' gets gets' left left' : List ℕ}
    → RatesOf input capacity asked n said requests gets left → RatesOf input capacity asked n' said' requests' gets' left'
    → (n ≡ n') × (said ≡ said') × (requests ≡ requests') × (gets ≡ gets') × (left ≡ left')
rates_one_answer {input} {capacity} {asked} a b =
    let e = asked-outcomes.one_answer capacity asked input a.answer b.answer a.rules b.rules in (
      a.answers ∙ ap (λ (r : Answer). number_of r.allotted.verdict) e ∙ sym b.answers,
      a.verdict ∙ ap (λ (r : Answer). said_of r.allotted.verdict r.last) e ∙ sym b.verdict,
      a.all_requests ∙ ap (λ (r : Answer). r.allotted.requests) e ∙ sym b.all_requests,
      a.all_gets ∙ ap (λ (r : Answer). r.allotted.gets) e ∙ sym b.all_gets,
      a.all_left ∙ ap (λ (r : Answer). r.allotted.unallotted) e ∙ sym b.all_left,
    )

pub waits_one_answer : {input : List ℕ} {class n n' : ℕ} {bytes bytes' : List ℕ} → WaitsOf input class n bytes
    → WaitsOf input class n' bytes' → (n ≡ n') × (bytes ≡ bytes')
waits_one_answer a b =
    let e = promise_one_answer _ _ _ _ _ a.rules.alone b.rules.alone in
    let f = promise_one_answer _ _ _ _ _ a.rules.full b.rules.full in (
      a.answers ∙ ap (λ (r : Promised). number_of r.verdict) e ∙ sym b.answers,
      a.promised ∙ ap₂ (λ (r s : Promised). r.bytes.0 ∷ s.bytes.0 ∷ []) e f ∙ sym b.promised,
    )

pub bound_one_answer : {input : List ℕ} {class d n n' : ℕ} → BoundOf input class d n → BoundOf input class d n' → n ≡ n'
bound_one_answer a b =
    let e = promise_one_answer _ _ _ _ _ a.rules b.rules in
    a.promised ∙ ap (λ (r : Promised). r.bytes.0) e ∙ sym b.promised

pub events_one_answer : (input before said said' after after' : List ℕ) → Events input before said after → Events input before said' after'
    → (said ≡ said') × (after ≡ after')
events_one_answer input before said said' after after' a b = go (program_begins input).more (program_begins input) a b
  where
    go : (more : Bool) (s : Step) → EventsBy more s input before said after → EventsBy more s input before said' after'
        → (said ≡ said') × (after ≡ after')
    go true s a b =
        let e = part_one_answer _ _ _ _ _ _ _ _ a.rules b.rules in
        (a.says ∙ ap part_says e.0 ∙ sym b.says, e.1)
    go false s a b = (both a.0 b.0, both a.1 b.1)

pub why_one_answer : {input : List ℕ} {class : ℕ} {before : List ℕ} {r r' : ℕ} {after after' : List ℕ} → TellsWhy input class before r after
    → TellsWhy input class before r' after' → (r ≡ r') × (after ≡ after')
why_one_answer {input} {class} {before} {r} {r'} {after} {after'} a b =
    let e = line_one_answer _ _ _ _ b.tells a.tells in
    lay_one_answer a.line before after after' r r' a.lays (subst (λ l. Lays l before r' after') e b.lays)

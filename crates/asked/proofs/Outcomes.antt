-- What the contract of the answer allows (R182 to R184): one answer; 10, the plan's number, then 20 and 21; of a refusal
-- `stop` number place is the only line.
use mathlib.Core.Bool.{not}
use mathlib.Core.List.{List, [], ◌∷◌}
use mathlib.Core.Path.{◌≡◌, sym, ap, ap₂, subst, ◌∙◌}
use Prim.Native.Nat.{ℕ}
use lib.ListN.{length}
use Rattle.checks.specs.declared.Refusal.TheVariants.{NotSound}
use Rattle.checks.specs.declared.Refusal.{Refusal}
use Rattle.std.specs.Prelude.{Ok, Err}
use Rattle.checks.specs.Check.{check, first_broken, input_checks, Verdict, refusal_at, number}
use Rattle.checks.proofs.Laws.{pass_over}
use Rattle.tree.specs.Rules.{PlanRules}
use Rattle.plan.specs.declared.PlanRead.{PlanRead}
use Rattle.plan.specs.Reader.{plan_of}
use Rattle.plan.proofs.Numbers.{accepted}
use Rattle.allot.specs.declared.Allotted.{Allotted}
use Rattle.allot.specs.Answer.{range_checks}
use Rattle.allot.proofs.OneAnswer.{rates_one_answer}
use Rattle.lines.specs.declared.Line.TheVariants.{Stop}
use Rattle.asked.specs.declared.Answer.{Answer}
use Rattle.asked.specs.Answer.{last_of, line_by, lines_up_to, answer_lines, OfPlan, OfInput, Answered}

-- an answer from its parts
abbrev whole : ℕ → Allotted → Answer
whole last allotted = record { last = last; allotted = allotted }

-- the tree of a plan that was read obeys the plan rules
plan_obeys : (input : List ℕ) → (plan_of input).verdict ≡ Ok tt → PlanRules (plan_of input).tree
plan_obeys input read =
    let a = accepted input read in
    subst (λ (x : PlanRead). PlanRules x.tree) (sym a.answer) a.rules

module _ (capacity : ℕ) (requests : List ℕ) where
  -- two answers to a plan
  plan_one : (v : Verdict) (read : PlanRead) (r s : Answer) → OfPlan v read capacity requests r → OfPlan v read capacity requests s → r ≡ s
  plan_one (Err _) read r s one other = one ∙ sym other
  plan_one (Ok _) read r s one other =
      let same = rates_one_answer read.tree capacity requests r.allotted s.allotted one.0 other.0 in
      let last = one.1 ∙ ap (λ (a : Allotted). last_of a.verdict read.tree.count) same ∙ sym other.1 in
      ap₂ whole last same

  -- two answers to an input
  input_one : (v : Verdict) (input : List ℕ) (r s : Answer)
      → OfInput v input capacity requests r
      → OfInput v input capacity requests s
      → r ≡ s
  input_one (Err _) input r s one other = one ∙ sym other
  input_one (Ok _) input r s one other = plan_one (plan_of input).verdict (plan_of input) r s one other

  -- any two answers that the contract allows are equal
  pub one_answer : (input : List ℕ) (r s : Answer) → Answered input capacity requests r → Answered input capacity requests s → r ≡ s
  one_answer input r s one other = input_one (first_broken (input_checks (length input))) input r s one other

  -- after 10 and the plan's own numbers come 20 and 21 alone
  pub after_plan : (input : List ℕ) (r : Answer)
      → first_broken (input_checks (length input)) ≡ Ok tt
      → (plan_of input).verdict ≡ Ok tt
      → Answered input capacity requests r
      → r.allotted.verdict ≡ first_broken (range_checks (plan_of input).tree capacity requests)
  after_plan input r short read one =
      let of-plan = subst (λ (v : Verdict). OfInput v input capacity requests r) short one in
      let rates = (subst (λ (v : Verdict). OfPlan v (plan_of input) capacity requests r) read of-plan).0 in
      rates.verdict
      ∙ pass_over (check NotSound (not rates.obeys) 0) (range_checks (plan_of input).tree capacity requests)
      (ap not (rates.exactly.complete (plan_obeys input read)))

  -- a refusal has a line for class 0 alone
  plan_last : (v : Verdict) (read : PlanRead) (r : Answer) (n : Refusal) (p : ℕ)
      → OfPlan v read capacity requests r
      → r.allotted.verdict ≡ Err (refusal_at n p)
      → r.last ≡ 0
  plan_last (Err _) read r n p one refused = ap (λ (a : Answer). a.last) one
  plan_last (Ok _) read r n p one refused = one.1 ∙ ap (λ (v : Verdict). last_of v read.tree.count) refused

  input_last : (v : Verdict) (input : List ℕ) (r : Answer) (n : Refusal) (p : ℕ)
      → OfInput v input capacity requests r
      → r.allotted.verdict ≡ Err (refusal_at n p)
      → r.last ≡ 0
  input_last (Err _) input r n p one refused = ap (λ (a : Answer). a.last) one
  input_last (Ok _) input r n p one refused = plan_last (plan_of input).verdict (plan_of input) r n p one refused

  -- which is `stop` number place
  pub stop_only : (input : List ℕ) (r : Answer) (n : Refusal) (p : ℕ)
      → Answered input capacity requests r
      → r.allotted.verdict ≡ Err (refusal_at n p)
      → answer_lines r ≡ Stop (number n) p ∷ []
  stop_only input r n p one refused =
      ap (lines_up_to r) (input_last (first_broken (input_checks (length input))) input r n p one refused)
      ∙ ap (λ (v : Verdict). line_by v r.allotted 0 ∷ []) refused

-- A question about rates is refused, if at all, with one of the 22 that docs/refusals.md tells of (R4). Demand 1.
use mathlib.Core.List.{List}
use Prim.Native.Nat.{ℕ}
use native.Mathlib.Omega.{arith}
use Rattle.std.specs.Prelude.{length, Ok, Err}
use Rattle.checks.specs.Check.{first_broken, input_checks, Verdict, Listed}
use Rattle.checks.proofs.Listed.{first_listed, classes_listed}
use Rattle.tree.specs.declared.Tree.{Tree}
use Rattle.plan.specs.Reader.{plan_of}
use Rattle.plan.proofs.Listed.{plan_listed}
use Rattle.allot.specs.declared.Allotted.{Allotted}
use Rattle.allot.specs.Answer.{request_checks, rate_checks, Rates}
use Rattle.asked.specs.declared.Answer.{Answer}
use Rattle.asked.specs.Answer.{OfPlan, OfInput, Answered}

pub rates_listed : {t : Tree} {capacity : ℕ} {table : List ℕ} {r : Allotted} → Rates t capacity table r → Listed r.verdict
rates_listed {t} {capacity} {table} {r} a =
    rw a.verdict (first_listed (rate_checks a.obeys t capacity table)
    ((omega arith, omega arith), ((omega arith, omega arith), classes_listed (request_checks t table) t.count (λ i. ((omega arith, omega arith), tt)))))

pub asked_listed : (input : List ℕ) (capacity : ℕ) (requests : List ℕ) (r : Answer) → Answered input capacity requests r → Listed r.allotted.verdict
asked_listed input capacity requests r a =
    of_input (first_broken (input_checks (length input))) (first_listed (input_checks (length input)) ((omega arith, omega arith), tt)) a
  where
    of_plan : (v : Verdict) → Listed v → OfPlan v (plan_of input) capacity requests r → Listed r.allotted.verdict
    of_plan (Ok _) h b = rates_listed b.0
    of_plan (Err e) h b = rw b h

    of_input : (v : Verdict) → Listed v → OfInput v input capacity requests r → Listed r.allotted.verdict
    of_input (Ok _) h b = of_plan (plan_of input).verdict (plan_listed input) b
    of_input (Err e) h b = rw b h

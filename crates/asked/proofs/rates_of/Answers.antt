-- `asked::rates_of` meets its contract.
use mathlib.Core.Path.{sym, subst, ◌∙◌}
use Rattle.checks.specs.Check.{Verdict}
use Rattle.plan.specs.declared.PlanRead.{PlanRead}
use Rattle.asked.specs.Answer.{OfPlan, OfInput}
use Rattle.asked.proofs.rates_of.Goals as goal

pub returns-in-Ok : goal.returns-in-Ok
returns-in-Ok c =
    let a = c.args in
    let r = c.of_plan.result in
    let plan = subst (λ (p : PlanRead). OfPlan p.verdict p a.capacity a.requests r) c.read_plan.ensures
    c.of_plan.ensures in
    let passed = sym c.in-Ok.is ∙ c.input_length-long.ensures in
    subst (λ (v : Verdict). OfInput v a.input.now a.capacity a.requests r) passed plan

pub returns-in-Err : goal.returns-in-Err
returns-in-Err c =
    let a = c.args in
    let r = c.refuse.result in
    let refused = sym c.in-Err.is ∙ c.input_length-long.ensures in
    subst (λ (v : Verdict). OfInput v a.input.now a.capacity a.requests r) refused c.refuse.ensures

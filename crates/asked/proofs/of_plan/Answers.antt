-- `asked::of_plan` meets its contract.
use mathlib.Core.Path.{sym, subst}
use Rattle.checks.specs.Check.{Verdict}
use Rattle.asked.specs.Answer.{OfPlan}
use Rattle.asked.proofs.of_plan.Goals as goal

pub returns-in-Ok : goal.returns-in-Ok
returns-in-Ok c =
    let a = c.args in
    let r = c.of_tree.result in
    subst (λ (v : Verdict). OfPlan v a.read a.capacity a.requests r) (sym c.in-Ok.is) c.of_tree.ensures

pub returns-in-Err : goal.returns-in-Err
returns-in-Err c =
    let a = c.args in
    let r = c.refuse.result in
    subst (λ (v : Verdict). OfPlan v a.read a.capacity a.requests r) (sym c.in-Err.is) c.refuse.ensures

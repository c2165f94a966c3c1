-- `asked_is_right` meets its contract.
use Rattle.checks.proofs.Laws.{exactly_no, not_true_and_false}
use Rattle.published_link.proofs.asked_is_right.Goals as goal

pub asked_right-requires : goal.asked_right-requires
asked_right-requires c = c.is_plan.ensures.sound c.if-is_plan.true

pub returns-then-is_plan : goal.returns-then-is_plan
returns-then-is_plan c =
    let e = c.asked_right.ensures in
    record {
      sound = λ y. record { rules = c.is_plan.ensures.sound c.if-is_plan.true; asked = e.sound y };
      complete = λ p. e.complete p.asked;
    }

pub returns-else-is_plan : goal.returns-else-is_plan
returns-else-is_plan c =
    rw c.if-is_plan.false (exactly_no (λ p. not_true_and_false (c.is_plan.ensures.complete p.rules) c.if-is_plan.false))

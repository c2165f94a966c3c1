-- `event::arrives` meets its contract.
use Rattle.answers.specs.Steps.{arrived_with}
use Rattle.answers.proofs.Events.{arrives_in_place}
use Rattle.answers.proofs.event.arrives.Goals as goal

pub returns : goal.returns
returns c =
    let a = c.args in
    λ l same takes. rw (c.from-2.ensures, c.from-3.ensures, c.from-4.ensures)
    (arrives_in_place a.sound _ (arrived_with a.class a.len a.tag) c.arrive-answer.result _
    (rw (← c.from.ensures) (c.arrive-answer.ensures.arrives_on l same takes)))

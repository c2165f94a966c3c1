-- `recorded::after_each` ends: each event moves on through the input.
use Rattle.run.proofs.Lines.{steps_less, next_on}
use Rattle.recorded.proofs.after_each.Goals as goal

pub loop-step-smaller : goal.loop-step-smaller
loop-step-smaller c =
    let input = c.args.input.now in
    let s = c.loop-step.step in
    let r = c.next-step.result in
    steps_less input r.more r.place s.more s.place c.loop-step-test.true (next_on s.link input s.place r c.next-step.ensures)

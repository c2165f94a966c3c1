-- `recorded::whole_second` ends: each event moves on through the input.
use Rattle.run.proofs.Lines.{steps_less}
use Rattle.published_run.proofs.Lines.{second_on}
use Rattle.recorded.proofs.whole_second.Goals as goal

pub loop-step-smaller : goal.loop-step-smaller
loop-step-smaller c =
    let input = c.args.input.now in
    let s = c.loop-step.step in
    let r = c.next-step.result in
    steps_less input r.more r.place s.more s.place c.loop-step-test.true (second_on s.link s.place input r c.next-step.ensures)

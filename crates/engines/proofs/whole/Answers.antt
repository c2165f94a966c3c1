-- `engines::whole` ends: each event moves on through the input.
use Rattle.run.proofs.Lines.{steps_less, next_on}
use Rattle.engines.proofs.whole.Goals as goal

pub loop-one-smaller : goal.loop-one-smaller
loop-one-smaller g c =
    let input = c.args.input.now in
    let s = c.loop-one.one in
    let r = c.next-one.result in
    steps_less input r.more r.place s.more s.place c.loop-one-test.true (next_on s.link input s.place r c.next-one.ensures)

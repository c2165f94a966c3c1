-- `by_parts::each_part` ends: each part moves on through the input.
use Rattle.std.proofs.Common.{arith}
use Rattle.run.proofs.Lines.{steps_less}
use Rattle.parts.proofs.Parts.{parts_on}
use Rattle.by_parts.proofs.each_part.Goals as goal

pub loop-at-smaller : goal.loop-at-smaller
loop-at-smaller g c =
    let input = c.args.input.now in
    let at = c.loop-at.at in
    let r = c.part-at.result in
    steps_less input r.more r.place at.more at.place c.loop-at-test.true
    (parts_on at.link input at.place _ r _ (c.requires.parts at.link _ at.place _ r _ c.part-at.ensures)
    (omega (arith, c.requires.room, c.loop-at.auto.text)))

-- `linkstream::in_window` ends: each part moves on through the window and stays within it.
use Rattle.std.proofs.Common.{arith}
use Rattle.run.proofs.Lines.{steps_less}
use Rattle.stream.proofs.Ends.{window_inside, window_on}
use Rattle.linkstream.proofs.in_window.Goals as goal

pub loop-part-preserved : goal.loop-part-preserved
loop-part-preserved g c =
    let part = c.loop-part.part in
    window_inside part.link c.args.window.now part.place _ c.part-part.result _ c.part-part.ensures.in_window c.loop-part.invariant

pub loop-part-smaller : goal.loop-part-smaller
loop-part-smaller g c =
    let window = c.args.window.now in
    let part = c.loop-part.part in
    let r = c.part-part.result in
    steps_less window r.more r.place part.more part.place c.loop-part-test.true
    (window_on part.link window part.place _ r _ c.part-part.ensures.in_window (omega arith))

-- `linkstream::main` ends and does no harm: there are only so many windows, and a place in the input is a number of 64 bits.
use mathlib.Core.Bool.{true}
use mathlib.Core.Path.{◌≡◌, sym, ap, ◌∙◌}
use native.Mathlib.Omega.{arith}
use lib.ListN.{take}
use lib.Seq.{length-take-le}
use borrow.Author.Tests.{not-false}
use Rattle.run.specs.declared.Step.{Step}
use Rattle.stream.proofs.Begins.{begin_inside}
use Rattle.linkstream.proofs.main.Goals as goal

pub loop-window-init : goal.loop-window-init
loop-window-init c =
    let w = c.read_full.new.buf in
    let n = c.in_ok-n.n in
    let step = c.begin-step.result in
    let more : step.more ≡ true = not-false step.more c.if-not-step.false in
    let place = ap (λ (x : Step). x.place) c.begin-step.ensures in
    let inside = begin_inside (take n w) (sym (ap (λ (x : Step). x.more) c.begin-step.ensures) ∙ more) in
    (omega (arith, c.in_ok-n.ensures), omega (arith, place, inside, length-take-le n w (c.in_ok-n.ensures).0), omega arith)

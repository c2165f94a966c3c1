-- `desk::run_on` meets its contract: each part moves on through the input, and the run ends as it would have from its start.
use mathlib.Core.Path.{sym, ap, ◌∙◌}
use mathlib.Core.Bool.{Bool, true}
use Prim.Native.Nat.{ℕ}
use native.Mathlib.Omega.{arith}
use lib.ListN.{length-replicate}
use Rattle.checks.proofs.Laws.{exactly_yes}
use Rattle.run.proofs.Lines.{steps_less, next_as}
use Rattle.parts.proofs.Parts.{parts_on}
use Rattle.desk.proofs.Endings.{ended, end_from_lem, goes_on_lem, has_ended, parts_end}
use Rattle.desk.proofs.run_on.Goals as goal

pub loop-part-init : goal.loop-part-init
loop-part-init c = (length-replicate {A = ℕ} 65_536 0, c.requires, goes_on_lem _ _ _)

pub slice_bounds-part-end : goal.slice_bounds-part-end
slice_bounds-part-end c = sym c.loop-part.invariant.0

pub loop-part-smaller : goal.loop-part-smaller
loop-part-smaller c =
    let input = c.args.input.now in
    let part = c.loop-part.part in
    let r = c.part-part.result in
    steps_less input r.more r.place part.more part.place c.loop-part-test.true
    (parts_on part.link input part.place _ r _ c.part-part.ensures.parts (omega (arith, c.loop-part.invariant.0)))

pub loop-part-preserved : goal.loop-part-preserved
loop-part-preserved c =
    let input = c.args.input.now in
    let part = c.loop-part.part in
    let r = c.part-part.result in (
      c.part-part.auto.out ∙ c.loop-part.invariant.0,
      c.part-part.ensures.parts.keeps c.loop-part.invariant.1,
      parts_end input part.link part.place _ r _ c.loop-part.invariant.1 c.part-part.ensures.parts
          ∙ sym (goes_on_lem input part.link part.place)
          ∙ ap (λ (b : Bool). ended input b part.link part.place) (sym c.loop-part-test.true) ∙ c.loop-part.invariant.2,
    )

pub returns : goal.returns
returns c =
    let input = c.args.input.now in
    let part = c.loop-part.part in
    next_as part.link input part.place true c.next.result (exactly_yes c.loop-part.invariant.1) c.next.ensures
    ∙ sym (has_ended input part.more part.link part.place c.loop-part-test.false) ∙ c.loop-part.invariant.2 ∙ end_from_lem input _ _

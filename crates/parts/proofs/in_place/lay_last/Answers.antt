-- `in_place::lay_last` meets its contract.
use mathlib.Core.Path.{ap}
use Rattle.checks.specs.Check.{Verdict}
use Rattle.parts.specs.Steps.{end_says}
use Rattle.parts.proofs.Happenings.{lays_as}
use Rattle.parts.proofs.in_place.lay_last.Goals as goal

pub returns-in-Ok : goal.returns-in-Ok
returns-in-Ok c =
    let a = c.args in
    lays_as a.at c.lay_at.result a.out.now _ (ap (λ (w : Verdict). end_says w a.waiting) c.in-Ok.is)
    (c.lay_at.ensures.laid_at, c.lay_at.ensures.upper_bound)

pub returns-in-Err : goal.returns-in-Err
returns-in-Err c =
    let a = c.args in
    lays_as a.at c.lay_at-in-Err.result a.out.now _ (ap (λ (w : Verdict). end_says w a.waiting) c.in-Err.is)
    (rw c.stop_line.ensures at c.lay_at-in-Err.ensures.laid_at, c.lay_at-in-Err.ensures.upper_bound)

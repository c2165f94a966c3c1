-- `in_place::lay_send` meets its contract.
use mathlib.Core.Path.{ap}
use Rattle.checks.specs.Check.{Verdict}
use Rattle.parts.specs.Steps.{gone_says}
use Rattle.parts.proofs.Happenings.{lays_as}
use Rattle.parts.proofs.in_place.lay_send.Goals as goal

pub returns-in-Ok : goal.returns-in-Ok
returns-in-Ok c =
    let a = c.args in
    lays_as a.at c.lay_out.result a.out.now _ (ap (λ (w : Verdict). gone_says w a.class a.len a.tag a.rounds
    a.waited) c.in-Ok.is) (c.lay_out.ensures.laid_at, c.lay_out.ensures.upper_bound)

pub returns-in-Err : goal.returns-in-Err
returns-in-Err c =
    let a = c.args in
    lays_as a.at c.lay_at.result a.out.now _ (ap (λ (w : Verdict). gone_says w a.class a.len a.tag a.rounds
    a.waited) c.in-Err.is) (c.lay_at.ensures.laid_at, c.lay_at.ensures.upper_bound)

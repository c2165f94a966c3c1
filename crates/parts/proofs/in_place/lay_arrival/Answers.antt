-- `in_place::lay_arrival` meets its contract.
use mathlib.Core.Path.{ap}
use Rattle.checks.specs.Check.{Verdict}
use Rattle.run.specs.Event.{arrival_says}
use Rattle.parts.specs.Steps.{packet_with}
use Rattle.parts.proofs.Happenings.{lays_as}
use Rattle.parts.proofs.in_place.lay_arrival.Goals as goal

pub returns-in-Ok : goal.returns-in-Ok
returns-in-Ok c =
    let a = c.args in
    lays_as a.at c.lay_in.result a.out.now _ (ap (λ (w : Verdict). arrival_says w a.class (packet_with a.len a.tag)
    a.bytes) c.in-Ok.is) (c.lay_in.ensures.laid_at, c.lay_in.ensures.upper_bound)

pub returns-in-Err : goal.returns-in-Err
returns-in-Err c =
    let a = c.args in
    lays_as a.at c.lay_at.result a.out.now _ (ap (λ (w : Verdict). arrival_says w a.class (packet_with a.len a.tag)
    a.bytes) c.in-Err.is) (rw c.number-number.ensures at c.lay_at.ensures.laid_at, c.lay_at.ensures.upper_bound)

-- `run::arrival_line` meets its contract.
use mathlib.Core.Path.{sym, ap}
use Rattle.checks.specs.Check.{Verdict}
use Rattle.run.specs.Event.{arrival_says, packet_in}
use Rattle.run.proofs.arrival_line.Goals as goal

pub returns-in-Ok : goal.returns-in-Ok
returns-in-Ok c =
    let g = c.args in
    let a = g.a in
    sym (ap (λ (v : Verdict). arrival_says v a.class (packet_in a) g.answer.bytes.0) c.in-Ok.is)

pub returns-in-Err : goal.returns-in-Err
returns-in-Err c =
    let g = c.args in
    let a = g.a in
    rw c.number.ensures (sym (ap (λ (v : Verdict). arrival_says v a.class (packet_in a) g.answer.bytes.0) c.in-Err.is))

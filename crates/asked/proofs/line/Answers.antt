-- `asked::line` meets its contract.
use mathlib.Core.Path.{sym, ap}
use Rattle.checks.specs.Check.{Verdict}
use Rattle.asked.specs.Answer.{line_by}
use Rattle.asked.proofs.line.Goals as goal

pub returns-in-Ok : goal.returns-in-Ok
returns-in-Ok c =
    let a = c.args in
    sym (ap (λ (v : Verdict). line_by v a.answer.allotted a.k) c.in-Ok.is)

pub returns-in-Err : goal.returns-in-Err
returns-in-Err c =
    let a = c.args in
    rw c.number.ensures (sym (ap (λ (v : Verdict). line_by v a.answer.allotted a.k) c.in-Err.is))

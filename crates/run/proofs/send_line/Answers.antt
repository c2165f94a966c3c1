-- `run::send_line` meets its contract.
use mathlib.Core.Path.{sym, ap}
use Rattle.checks.specs.Check.{Verdict}
use Rattle.run.specs.Event.{send_says}
use Rattle.run.proofs.send_line.Goals as goal

pub returns-in-Ok : goal.returns-in-Ok
returns-in-Ok c =
    sym (ap (λ (v : Verdict). send_says v c.args.d) c.in-Ok.is)

pub returns-in-Err : goal.returns-in-Err
returns-in-Err c = sym (ap (λ (v : Verdict). send_says v c.args.d) c.in-Err.is)

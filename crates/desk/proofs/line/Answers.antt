-- `desk::line` meets its contract: the line of what `reasons::why` answers.
use mathlib.Core.Path.{sym, ap, ◌∙◌}
use Rattle.desk.specs.Told.{silence_line}
use Rattle.desk.proofs.line.Goals as goal

pub returns-in-Ok : goal.returns-in-Ok
returns-in-Ok c =
    record {
      silence = c.why-silence.result;
      why = c.why-silence.ensures;
      says = c.reason_line.ensures ∙ sym (ap (silence_line c.args.class) c.in-Ok.is);
    }

pub returns-in-Err : goal.returns-in-Err
returns-in-Err c =
    record {
      silence = c.why-silence.result;
      why = c.why-silence.ensures;
      says = rw c.number.ensures (sym (ap (silence_line c.args.class) c.in-Err.is));
    }

-- `desk::reason_line` meets its contract: a line for each reason.
use mathlib.Core.Path.{sym, ap}
use Rattle.desk.specs.Told.{reason_line}
use Rattle.desk.proofs.reason_line.Goals as goal

pub returns-in-Empty : goal.returns-in-Empty
returns-in-Empty c = sym (ap (reason_line c.args.class) c.in-Empty.is)

pub returns-in-Waits : goal.returns-in-Waits
returns-in-Waits c = sym (ap (reason_line c.args.class) c.in-Waits.is)

pub returns-in-Short : goal.returns-in-Short
returns-in-Short c = sym (ap (reason_line c.args.class) c.in-Short.is)

pub returns-in-Due : goal.returns-in-Due
returns-in-Due c = sym (ap (reason_line c.args.class) c.in-Due.is)

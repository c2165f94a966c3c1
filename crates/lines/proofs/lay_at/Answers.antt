-- `lines::lay_at` meets its contract: each case lays its word, then its numbers.
use native.Mathlib.Omega.{arith}
use Rattle.lines.specs.Line.{bytes_of}
use Rattle.lines.proofs.Laying.{line_at, laid_end}
use Rattle.lines.proofs.lay_at.Goals as goal

pub returns-in-Link : goal.returns-in-Link
unfolding bytes_of
returns-in-Link c = record { laid_at = line_at _ _ _ _ _ _ c.in-Link.is c.lay_two.ensures.laid_at; upper_bound = c.lay_two.ensures.upper_bound }

pub returns-in-In : goal.returns-in-In
returns-in-In c = record { laid_at = line_at _ _ _ _ _ _ c.in-In.is c.lay_in.ensures.laid_at; upper_bound = c.lay_in.ensures.upper_bound }

pub returns-in-No : goal.returns-in-No
unfolding bytes_of
returns-in-No c = record { laid_at = line_at _ _ _ _ _ _ c.in-No.is c.lay_four.ensures.laid_at; upper_bound = c.lay_four.ensures.upper_bound }

pub returns-in-Out : goal.returns-in-Out
returns-in-Out c = record { laid_at = line_at _ _ _ _ _ _ c.in-Out.is c.lay_out.ensures.laid_at; upper_bound = c.lay_out.ensures.upper_bound }

pub returns-in-Nothing : goal.returns-in-Nothing
unfolding bytes_of
returns-in-Nothing c = record { laid_at = line_at _ _ _ _ _ _ c.in-Nothing.is c.put.ensures; upper_bound = omega (arith, c.put.ensures.0) }

pub returns-in-End : goal.returns-in-End
unfolding bytes_of
returns-in-End c =
    let laid = laid_end _ _ _ _ _ _ _ _ (omega arith) c.put-next.ensures c.put_last.ensures.laid_at in record { laid_at = line_at _ _ _ _ _ _ c.in-End.is laid; upper_bound = omega (arith, c.put-next.ensures.0, c.put_last.ensures.upper_bound) }

pub returns-in-Stop : goal.returns-in-Stop
unfolding bytes_of
returns-in-Stop c = record { laid_at = line_at _ _ _ _ _ _ c.in-Stop.is c.lay_two-in-Stop.ensures.laid_at; upper_bound = c.lay_two-in-Stop.ensures.upper_bound }

pub returns-in-Rate : goal.returns-in-Rate
unfolding bytes_of
returns-in-Rate c = record { laid_at = line_at _ _ _ _ _ _ c.in-Rate.is c.lay_four-in-Rate.ensures.laid_at; upper_bound = c.lay_four-in-Rate.ensures.upper_bound }

pub returns-in-Silent : goal.returns-in-Silent
returns-in-Silent c = record { laid_at = line_at _ _ _ _ _ _ c.in-Silent.is c.lay_silent.ensures.laid_at; upper_bound = c.lay_silent.ensures.upper_bound }

pub returns-in-NotTold : goal.returns-in-NotTold
unfolding bytes_of
returns-in-NotTold c = record { laid_at = line_at _ _ _ _ _ _ c.in-NotTold.is c.lay_two-in-NotTold.ensures.laid_at; upper_bound = c.lay_two-in-NotTold.ensures.upper_bound }

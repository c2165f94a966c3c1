-- `lines::put_why` meets its contract: each case lays its word.
use native.Mathlib.Omega.{arith}
use Rattle.lines.proofs.Laying.{why_at}
use Rattle.lines.proofs.put_why.Goals as goal

pub returns-in-Empty : goal.returns-in-Empty
returns-in-Empty c = record { laid_at = why_at _ _ _ _ _ _ c.in-Empty.is c.put.ensures; upper_bound = omega (arith, c.put.ensures.0) }

pub returns-in-Waits : goal.returns-in-Waits
returns-in-Waits c = record { laid_at = why_at _ _ _ _ _ _ c.in-Waits.is c.put-in-Waits.ensures; upper_bound = omega (arith, c.put-in-Waits.ensures.0) }

pub returns-in-Short : goal.returns-in-Short
returns-in-Short c = record { laid_at = why_at _ _ _ _ _ _ c.in-Short.is c.put-in-Short.ensures; upper_bound = omega (arith, c.put-in-Short.ensures.0) }

pub returns-in-Due : goal.returns-in-Due
returns-in-Due c = record { laid_at = why_at _ _ _ _ _ _ c.in-Due.is c.put-in-Due.ensures; upper_bound = omega (arith, c.put-in-Due.ensures.0) }

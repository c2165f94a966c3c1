-- `lines::lay` meets its contract: a line laid at place 0.
use native.Mathlib.Omega.{arith}
use Rattle.lines.proofs.Laying.{lays, counts}
use Rattle.lines.proofs.lay.Goals as goal

pub returns : goal.returns
returns c = record { lays = lays c.args.line _ _ _ c.lay_at.ensures.laid_at; prefix_len = counts _ _ (omega (arith, c.lay_at.ensures.upper_bound)) }

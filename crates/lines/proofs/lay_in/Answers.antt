-- `lines::lay_in` meets its contract: its word, then its numbers.
use native.Mathlib.Omega.{arith}
use Rattle.lines.specs.Line.{bytes_of}
use Rattle.lines.proofs.Laying.{laid_end}
use Rattle.lines.proofs.lay_in.Goals as goal

pub returns : goal.returns
unfolding bytes_of
returns c =
    let laid = laid_end _ _ _ _ _ _ _ _ (omega arith) c.put-next.ensures c.put_last_four.ensures.laid_at in record { laid_at = laid; upper_bound = omega (arith, c.put-next.ensures.0, c.put_last_four.ensures.upper_bound) }

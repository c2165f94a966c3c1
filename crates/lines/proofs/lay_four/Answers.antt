-- `lines::lay_four` meets its contract: the word, then the numbers.
use native.Mathlib.Omega.{arith}
use Rattle.lines.proofs.Laying.{laid_end}
use Rattle.lines.proofs.lay_four.Goals as goal

pub returns : goal.returns
returns c =
    let laid = laid_end _ _ _ _ _ _ _ _ (omega arith) c.put-next.ensures c.put_last_four.ensures.laid_at in record { laid_at = laid; upper_bound = omega (arith, c.put-next.ensures.0, c.put_last_four.ensures.upper_bound) }

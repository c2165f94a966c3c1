-- `lines::put_last` meets its contract: the number, then one byte.
use mathlib.Core.List.{[]}
use native.Mathlib.Omega.{arith}
use Rattle.lines.specs.Laid.{end_of}
use Rattle.digits.proofs.Laying.{laid_byte}
use Rattle.lines.proofs.Laying.{laid_end}
use Rattle.lines.proofs.put_last.Goals as goal

pub returns : goal.returns
unfolding end_of
returns c =
    let end = laid_byte c.put_spaced-end.result 10 c.put_spaced-end.new.out (omega arith) in
    let whole = laid_end _ _ [] _ _ _ _ _ (omega (arith, c.put_spaced-end.ensures.laid_at.0)) c.put_spaced-end.ensures.laid_at end in record { laid_at = whole; upper_bound = omega (arith, c.put_spaced-end.ensures.upper_bound) }

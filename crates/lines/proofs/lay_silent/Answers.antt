-- `lines::lay_silent` meets its contract: its word, the class, the reason, then the bytes that it lacks.
use native.Mathlib.Omega.{arith}
use Rattle.digits.proofs.Laying.{laid_then}
use Rattle.lines.specs.Line.{bytes_of}
use Rattle.lines.proofs.Laying.{laid_end}
use Rattle.lines.proofs.lay_silent.Goals as goal

pub returns : goal.returns
unfolding bytes_of
returns c =
    let named = laid_then _ _ _ _ _ _ _ _ (omega arith) c.put-word.ensures c.put_number-named.ensures.laid_at in
    let told = laid_then _ _ _ _ _ _ _ _ (omega arith) named c.put_why-told.ensures.laid_at in
    let laid = laid_end _ _ _ _ _ _ _ _ (omega arith) told c.put_last.ensures.laid_at in record { laid_at = laid; upper_bound = omega (arith, c.put-word.ensures.0, c.put_number-named.ensures.upper_bound, c.put_why-told.ensures.upper_bound, c.put_last.ensures.upper_bound) }

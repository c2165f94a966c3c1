-- `digits::put_four` meets its contract: the upper half of its digits, then the lower half.
use native.Mathlib.Omega.{arith}
use Rattle.digits.proofs.Laying.{laid_then}
use Rattle.digits.proofs.put_four.Goals as goal

pub returns : goal.returns
returns c =
    laid_then _ _ _ _ _ _ _ _ (omega arith) c.put_two-next.ensures c.put_two.ensures

-- `digits::put_eight` meets its contract: the upper half of its digits, then the lower half.
use native.Mathlib.Omega.{arith}
use Rattle.digits.proofs.Laying.{laid_then}
use Rattle.digits.proofs.put_eight.Goals as goal

pub returns : goal.returns
returns c =
    laid_then _ _ _ _ _ _ _ _ (omega arith) c.put_four-next.ensures c.put_four.ensures

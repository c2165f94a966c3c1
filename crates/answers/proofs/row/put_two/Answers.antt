-- `row::put_two` meets its contract: one half after the other.
use mathlib.Core.Path.{refl}
use native.Mathlib.Omega.{arith}
use Rattle.digits.proofs.Laying.{laid_as}
use Rattle.answers.proofs.row.put_two.Goals as goal

pub returns : goal.returns
returns c =
    laid_as _ _ _ _ _ _ _ _ _ refl (omega arith) c.put-next.ensures c.put.ensures

-- `row::put_four` meets its contract: one half after the other.
use mathlib.Core.Path.{refl}
use native.Mathlib.Omega.{arith}
use Rattle.digits.proofs.Laying.{laid_as}
use Rattle.answers.proofs.row.put_four.Goals as goal

pub returns : goal.returns
returns c =
    laid_as _ _ _ _ _ _ _ _ _ refl (omega arith) c.put_two-next.ensures c.put_two.ensures

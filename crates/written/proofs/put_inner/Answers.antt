-- `written::put_inner` meets its contract: kind and parent, then the weight.
use mathlib.Core.List.{[], ◌∷◌}
use mathlib.Core.Path.{sym, ◌∙◌}
use native.Mathlib.Omega.{arith}
use Rattle.digits.proofs.Laying.{laid_then, laid_same}
use Rattle.written.proofs.BigEndian.{as_bytes32}
use Rattle.written.proofs.put_inner.Goals as goal

pub returns : goal.returns
returns c =
    let a = c.args in
    let weight = sym (as_bytes32 a.weight (omega arith)) ∙ sym c.to_be_bytes.ensures in
    laid_then a.at (1 ∷ a.parent ∷ []) _ _ _ _ _ _ (omega arith) c.put-next.ensures (laid_same _ _ _ _ _ _ weight c.put.ensures)

-- `written::put_leaf` meets its contract: kind and parent, then the weight and the longest.
use mathlib.Core.List.{[], ◌∷◌}
use mathlib.Core.Path.{sym, ◌∙◌}
use native.Mathlib.Omega.{arith}
use Rattle.digits.proofs.Laying.{laid_then, laid_same}
use Rattle.written.specs.Bytes.{bytes32}
use Rattle.written.proofs.BigEndian.{as_bytes16, as_bytes32}
use Rattle.written.proofs.put_leaf.Goals as goal

pub returns : goal.returns
returns c =
    let a = c.args in
    let weight = sym (as_bytes32 a.weight (omega arith)) ∙ sym c.to_be_bytes.ensures in
    let longest = sym (as_bytes16 a.longest (omega arith)) ∙ sym c.to_be_bytes-2.ensures in
    let first = laid_then a.at (2 ∷ a.parent ∷ []) (bytes32 a.weight) _ _ _ _ _ (omega arith) c.put-next.ensures (laid_same _ _ _ _ _ _ weight c.put-next-2.ensures) in
    laid_then a.at (2 ∷ a.parent ∷ bytes32 a.weight) _ _ _ _ _ _ (omega arith) first (laid_same _ _ _ _ _ _ longest c.put.ensures)

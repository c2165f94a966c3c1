-- `digits::put_two` meets its contract: one byte after the other.
use mathlib.Core.List.{[], ◌∷◌}
use mathlib.Core.Path.{sym, ap₂}
use Prim.Native.Nat.{ℕ, ◌+◌}
use native.Mathlib.Omega.{arith}
use lib.ListN.{set}
use lib.Seq.{lt-length-set}
use Rattle.digits.proofs.Laying.{laid_byte, laid_as}
use Rattle.digits.proofs.put_two.Goals as goal

pub returns : goal.returns
returns c =
    let a = c.args in
    let at = a.at in
    let b = a.out.now in
    let d = c.byte_of.result in
    let e = c.byte_of-2.result in
    let digits = ap₂ (λ (x y : ℕ). x ∷ y ∷ []) (sym c.byte_of.ensures) (sym c.byte_of-2.ensures) in
    let next = laid_byte (at + 1) e (set b at d) (lt-length-set b at d (omega arith)) in
    laid_as _ _ _ _ _ _ _ _ _ digits (omega arith) (laid_byte at d b (omega arith)) (omega arith, next.1)

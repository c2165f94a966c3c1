-- `lines::put_spaced` meets its contract: a number as `put_number` lays it, or a space and one digit.
use mathlib.Core.List.{List, [], ◌∷◌}
use mathlib.Core.Path.{sym, ap, ◌∙◌}
use Prim.Native.Nat.{ℕ, ◌+◌}
use native.Mathlib.Omega.{arith}
use lib.ListN.{set}
use lib.Seq.{lt-length-set}
use Rattle.digits.proofs.Decimals.{decimal_small}
use Rattle.digits.proofs.Laying.{laid_byte, laid_as}
use Rattle.lines.proofs.put_spaced.Goals as goal

pub bounds-out-at-2 : goal.bounds-out-at-2
bounds-out-at-2 c =
    let a = c.args in
    lt-length-set a.out.now a.at 32 (omega arith)

pub returns : goal.returns
returns c =
    let a = c.args in
    let at = a.at in
    let b = a.out.now in
    let d = c.byte_of.result in
    let digits = decimal_small a.n (omega (arith, c.if-n-ge10.false)) ∙ ap (λ (x : ℕ). x ∷ []) (sym c.byte_of.ensures) in
    let next = laid_byte (at + 1) d (set b at 32) (lt-length-set b at 32 (omega arith)) in record { laid_at = laid_as _ _ _ _ _ _ _ _ _ (ap (λ (x : List ℕ). 32 ∷ x) digits) (omega arith) (laid_byte at 32 b (omega arith)) (omega arith, next.1); upper_bound = omega arith }

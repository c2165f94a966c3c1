-- `digits::put_short` meets its contract: one digit, or two.
use mathlib.Core.List.{[], ◌∷◌}
use mathlib.Core.Path.{sym, ap, ◌∙◌}
use Prim.Native.Nat.{ℕ}
use native.Mathlib.Omega.{arith}
use Rattle.digits.proofs.Decimals.{decimal_small, decimal_two}
use Rattle.digits.proofs.Laying.{laid_byte, laid_same}
use Rattle.digits.proofs.put_short.Goals as goal

pub returns-then-n-lt10 : goal.returns-then-n-lt10
returns-then-n-lt10 c =
    let a = c.args in
    let one = decimal_small a.n (omega (arith, c.if-n-lt10.true)) ∙ ap (λ (d : ℕ). d ∷ []) (sym c.byte_of.ensures) in
    laid_same _ _ _ _ _ _ one (laid_byte a.at c.byte_of.result a.out.now (omega arith))

pub returns : goal.returns
returns c =
    laid_same _ _ _ _ _ _ (decimal_two c.args.n (omega (arith, c.if-n-lt10.false)) c.requires.0) c.put_two.ensures

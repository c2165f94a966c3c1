-- `digits::put_many` meets its contract: the digits of its ten-thousandth, then four.
use Prim.Native.Nat.{◌/◌}
use native.Mathlib.Omega.{arith}
use Rattle.digits.proofs.Decimals.{decimal_by_four, decimal_within}
use Rattle.digits.proofs.Laying.{laid_as}
use Rattle.digits.proofs.put_many.Goals as goal

pub put_four-requires : goal.put_four-requires
put_four-requires c =
    (omega arith, omega (arith, c.put_few-next.ensures.0, decimal_within (c.args.n / 10_000) 3 (omega arith), c.requires.1))

pub returns : goal.returns
returns c =
    let n = c.args.n in
    let cut = decimal_by_four n c.if-n-lt10000.false in
    laid_as _ _ _ _ _ _ _ _ _ cut (omega (arith, decimal_within (n / 10_000) 3 (omega arith), c.requires.1))
    c.put_few-next.ensures c.put_four.ensures

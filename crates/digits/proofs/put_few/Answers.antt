-- `digits::put_few` meets its contract: the digits of its hundredth, then two.
use Prim.Native.Nat.{◌/◌}
use native.Mathlib.Omega.{arith}
use Rattle.digits.proofs.Decimals.{decimal_by_two, decimal_within}
use Rattle.digits.proofs.Laying.{laid_as}
use Rattle.digits.proofs.put_few.Goals as goal

pub put_two-requires : goal.put_two-requires
put_two-requires c =
    (omega arith, omega (arith, c.put_short-next.ensures.0, decimal_within (c.args.n / 100) 1 (omega arith), c.requires.1))

pub returns : goal.returns
returns c =
    let n = c.args.n in
    let cut = decimal_by_two n c.if-n-lt100.false in
    laid_as _ _ _ _ _ _ _ _ _ cut (omega (arith, decimal_within (n / 100) 1 (omega arith), c.requires.1))
    c.put_short-next.ensures c.put_two.ensures

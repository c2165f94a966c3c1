-- `digits::put_large` meets its contract: the digits of its upper part, then four or eight.
use Prim.Native.Nat.{◌/◌}
use native.Mathlib.Omega.{arith}
use Rattle.digits.proofs.Decimals.{decimal_by_four, decimal_by_eight, decimal_within}
use Rattle.digits.proofs.Laying.{laid_as}
use Rattle.digits.proofs.put_large.Goals as goal

pub put_four-requires : goal.put_four-requires
put_four-requires c =
    (omega arith, omega (arith, c.put_few-next.ensures.0, decimal_within (c.args.n / 10_000) 3 (omega arith), c.requires.1))

pub returns-then-n-lt100000000 : goal.returns-then-n-lt100000000
returns-then-n-lt100000000 c =
    let n = c.args.n in
    let cut = decimal_by_four n c.requires.0 in
    laid_as _ _ _ _ _ _ _ _ _ cut (omega (arith, decimal_within (n / 10_000) 3 (omega arith), c.requires.1))
    c.put_few-next.ensures c.put_four.ensures

pub put_eight-requires : goal.put_eight-requires
put_eight-requires c =
    (omega arith, omega (arith, c.put_upper-next.ensures.0, decimal_within (c.args.n / 100_000_000) 11 (omega arith), c.requires.1))

pub returns : goal.returns
returns c =
    let n = c.args.n in
    let cut = decimal_by_eight n c.if-n-lt100000000.false in
    laid_as _ _ _ _ _ _ _ _ _ cut (omega (arith, decimal_within (n / 100_000_000) 11 (omega arith), c.requires.1))
    c.put_upper-next.ensures c.put_eight.ensures

-- `lines::put_number` meets its contract: a space, then the digits.
use native.Mathlib.Omega.{arith}
use lib.ListN.{length-set}
use Rattle.digits.proofs.Decimals.{decimal_most}
use Rattle.digits.proofs.Laying.{laid_byte, laid_then}
use Rattle.lines.proofs.put_number.Goals as goal

pub put_few-requires : goal.put_few-requires
put_few-requires c =
    (omega arith, rw length-set (omega (arith, c.requires)))

pub returns-then-n-lt10000 : goal.returns-then-n-lt10000
returns-then-n-lt10000 c =
    let a = c.args in
    let b = a.out.now in
    let whole = laid_then _ _ _ _ _ _ _ _ (omega arith) (laid_byte a.at 32 b (omega arith)) c.put_few.ensures in record { laid_at = whole; upper_bound = omega (arith, c.put_few.ensures.0, decimal_most a.n (omega arith)) }

pub put_large-requires : goal.put_large-requires
put_large-requires c =
    (omega arith, rw length-set (omega (arith, c.requires)))

pub returns : goal.returns
returns c =
    let a = c.args in
    let b = a.out.now in
    let whole = laid_then _ _ _ _ _ _ _ _ (omega arith) (laid_byte a.at 32 b (omega arith)) c.put_large.ensures in record { laid_at = whole; upper_bound = omega (arith, c.put_large.ensures.0, decimal_most a.n (omega arith)) }

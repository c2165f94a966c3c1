-- `numbers::met` meets its contract.
use native.Mathlib.Omega.{arith}
use Rattle.cometbanjo.proofs.numbers.met.Goals as goal

pub returns-then-length-gt-MOST : goal.returns-then-length-gt-MOST
returns-then-length-gt-MOST c = omega (arith, c.if-length-gt-MOST.true)

pub returns : goal.returns
returns c = omega (arith, c.if-length-gt-MOST.false)

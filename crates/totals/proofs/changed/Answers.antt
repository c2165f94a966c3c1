-- `totals::changed` meets its contract.
use mathlib.Core.Bool.{true, false}
use mathlib.Core.Path.{◌≡◌, refl}
use native.Mathlib.Omega.{arith}
use Rattle.totals.proofs.changed.Goals as goal

pub returns-else-fewer : goal.returns-else-fewer
returns-else-fewer c = let e : c.args.fewer ≡ false = c.if-fewer.false in rw e refl

pub overflow_sub-result : goal.overflow_sub-result
overflow_sub-result c = omega (arith, c.requires.1 c.if-fewer.true)

pub returns-then-fewer : goal.returns-then-fewer
returns-then-fewer c = let e : c.args.fewer ≡ true = c.if-fewer.true in rw e refl

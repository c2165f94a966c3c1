-- `shape::weight` meets its contract.
use mathlib.Core.Path.{sym}
use native.Mathlib.Omega.{arith}
use Rattle.shape.proofs.Read.{weight_in_lem, weight_fits}
use Rattle.shape.proofs.weight.Goals as goal

pub overflow_cast-result : goal.overflow_cast-result
overflow_cast-result c = omega (
  arith,
  weight_in_lem c.args.shape.now c.args.class c.requires.1,
  weight_fits _ c.requires.0 c.args.class c.requires.1,
)

pub returns : goal.returns
returns c = sym (weight_in_lem c.args.shape.now c.args.class c.requires.1)

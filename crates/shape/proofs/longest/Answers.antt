-- `shape::longest` meets its contract.
use mathlib.Core.Path.{sym}
use native.Mathlib.Omega.{arith}
use Rattle.shape.proofs.Read.{longest_in, longest_fits}
use Rattle.shape.proofs.longest.Goals as goal

pub overflow_cast-result : goal.overflow_cast-result
overflow_cast-result c = omega (
  arith,
  longest_in c.args.shape.now c.args.class c.requires.1,
  longest_fits _ c.requires.0 c.args.class c.requires.1,
)

pub returns : goal.returns
returns c = sym (longest_in c.args.shape.now c.args.class c.requires.1)

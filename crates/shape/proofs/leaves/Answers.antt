-- `shape::leaves` meets its contract.
use mathlib.Core.Path.{sym}
use Rattle.shape.proofs.Read.{leaves_in}
use Rattle.shape.proofs.leaves.Goals as goal

pub returns : goal.returns
returns c = sym (leaves_in c.args.shape.now)

-- `shape::count` meets its contract.
use mathlib.Core.Path.{sym}
use Rattle.shape.proofs.Read.{count_in_lem}
use Rattle.shape.proofs.count.Goals as goal

pub returns : goal.returns
returns c = sym (count_in_lem c.args.shape.now)

-- `shape::parent` meets its contract.
use mathlib.Core.Path.{sym}
use Rattle.shape.proofs.Read.{parent_in}
use Rattle.shape.proofs.parent.Goals as goal

pub returns : goal.returns
returns c = sym (parent_in c.args.shape.now c.args.class c.requires)

-- `shape::follows` meets its contract.
use mathlib.Core.Path.{sym}
use Rattle.shape.proofs.Read.{follows_in}
use Rattle.shape.proofs.follows.Goals as goal

pub returns : goal.returns
returns c = sym (follows_in c.args.shape.now)

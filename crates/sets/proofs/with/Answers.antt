-- `sets::with` meets its contract: `|` with the shifted one is the set with the class.
use Rattle.sets.proofs.Bits.{one_at}
use Rattle.sets.proofs.Laws.{or_with}
use Rattle.sets.proofs.with.Goals as goal

pub returns : goal.returns
returns c = rw (one_at c.args.class c.requires) (or_with c.args.set c.args.class)

-- `sets::without` meets its contract: `&` with all but the shifted one is the set without the class.
use Rattle.sets.proofs.Bits.{one_at}
use Rattle.sets.proofs.Laws.{and_without}
use Rattle.sets.proofs.without.Goals as goal

pub returns : goal.returns
returns c =
    rw (one_at c.args.class c.requires) (and_without c.args.set c.args.class c.ranges.set.fits c.requires)

-- `sets::both` meets its contract: `&` has the classes of both sets.
use Rattle.sets.proofs.Laws.{and_both}
use Rattle.sets.proofs.both.Goals as goal

pub returns : goal.returns
returns c = and_both c.args.a c.args.b c.ranges.a.fits

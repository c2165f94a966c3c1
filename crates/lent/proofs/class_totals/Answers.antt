-- `class_totals` behind `&mut` meets its contract: what the call over the fields says holds at any tags and marks, so at the record's.
use Rattle.std.proofs.Common.{refl}
use Rattle.lent.proofs.class_totals.Goals as goal

pub returns : goal.returns
returns c = (c.class_totals_of.ensures c.args.link.now.tags c.args.link.now.marks, refl)

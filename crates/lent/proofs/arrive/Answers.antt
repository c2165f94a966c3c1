-- `arrive` behind `&mut` meets its contract: the call over the fields of the lent record is the call on the record.
use Rattle.std.proofs.Common.{rules}
use Rattle.fields.proofs.OverFields.{arrives_whole}
use Rattle.lent.proofs.arrive.Goals as goal

pub returns : goal.returns
returns c =
    arrives_whole c.args.link.now c.args.class c.args.packet c.arrive_in-placed.result.answer _ (search rules) c.arrive_in-placed.ensures

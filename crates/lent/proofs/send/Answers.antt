-- `send` behind `&mut` meets its contract: the call over the fields of the lent record is the call on the record.
use Rattle.std.proofs.Common.{rules}
use Rattle.fields.proofs.OverFields.{sends_whole}
use Rattle.lent.proofs.send.Goals as goal

pub returns : goal.returns
returns c = sends_whole c.args.link.now c.send_of-went.result (search rules) c.send_of-went.ensures

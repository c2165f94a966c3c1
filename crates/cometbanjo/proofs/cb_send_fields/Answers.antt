-- `cb_send_fields` meets its contract.
use Rattle.cometbanjo.proofs.Calling.{send_said}
use Rattle.cometbanjo.proofs.cb_send_fields.Goals as goal

pub returns : goal.returns
returns c = send_said c.send-went.ensures c.number_of.ensures c.send_row.ensures

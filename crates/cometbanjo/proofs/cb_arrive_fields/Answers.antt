-- `cb_arrive_fields` meets its contract.
use Rattle.cometbanjo.proofs.Calling.{arrival_said}
use Rattle.cometbanjo.proofs.cb_arrive_fields.Goals as goal

pub returns : goal.returns
returns c =
    arrival_said c.packet_of-packet.ensures c.arrive-came.ensures c.number_of.ensures c.arrival_row.ensures

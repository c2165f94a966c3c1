-- `cb_offer_fields` meets its contract.
use Rattle.cometbanjo.proofs.Calling.{offers_met}
use Rattle.cometbanjo.proofs.cb_offer_fields.Goals as goal

pub returns : goal.returns
returns c =
    record {
      answer = c.if_accepted-offered.result;
      rules = offers_met c.args.length c.packet_of-packet.ensures c.if_accepted-offered.ensures;
      answers = c.number_of.ensures;
      numbers = c.offer_said.ensures;
    }

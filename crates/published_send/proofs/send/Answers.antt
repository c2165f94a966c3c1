-- `send` meets its contract: the leaf that was found sends by the first engine's own step.
use Rattle.published.specs.Visiting.{visited}
use Rattle.published_send.proofs.Ends.{sends_next, wide_turn, sends_wholly}
use Rattle.published_send.proofs.send.Goals as goal

pub next_sender-next-requires : goal.next_sender-next-requires
next_sender-next-requires c =
    ((_, _, _, _, c.requires.0), c.requires.2)

pub goes-gone-requires : goal.goes-gone-requires
goes-gone-requires c =
    let a = c.next_sender-next.ensures.arrived _ _ _ _ c.requires.0 in (
      (
        c.next_sender-next.result.size,
        (visited a.x).after.state.round.place,
        record { wide = wide_turn _ c.requires.0 _ _ _ _ _ a; next = sends_next _ c.requires.0 _ _ _ _ _ a },
      ),
      c.requires.1,
    )

pub returns : goal.returns
returns c =
    let a = c.next_sender-next.ensures.arrived _ _ _ _ c.requires.0 in
    let e =
    c.goes-gone.ensures.packet_value c.next_sender-next.result.size (visited a.x).after.state.round.place
    (record { wide = wide_turn _ c.requires.0 _ _ _ _ _ a; next = sends_next _ c.requires.0 _ _ _ _ _ a })
    in
    record {
      wholly = rw c.has_gone.ensures (sends_wholly _ c.requires.0 _ _ _ _ _ a c.goes-gone.result _ e.0 e.1);
      kept = rw c.has_gone.ensures c.next_sender-next.ensures.kept;
      near = c.goes-gone.ensures.near;
    }

-- `steps::send` meets its contract.
use mathlib.Core.Path.{sym}
use Rattle.steps.proofs.Departures.{then_goes, then_departs, going_on, nothing_departs}
use Rattle.totals.proofs.Sounds.{near_same}
use Rattle.steps.proofs.send.Goals as goal

pub returns-then-packets-eq0 : goal.returns-then-packets-eq0
returns-then-packets-eq0 c = record {
  departs = rw c.nothing.ensures (nothing_departs c.args.stand _ _ c.args.packets.now c.args.bytes.now c.requires.0
      c.if-packets-eq0.true);
  kept = rw c.nothing.ensures (c.requires.2);
  near = (near_same c.args.packets.now, near_same c.args.bytes.now);
}

pub next_sender-next-requires : goal.next_sender-next-requires
next_sender-next-requires c =
    ((_, _, _, going_on c.args.stand _ _ c.args.packets.now c.args.bytes.now c.requires.0 c.if-packets-eq0.false), c.requires.2)

pub goes-gone-requires : goal.goes-gone-requires
goes-gone-requires c = (
  (
    _,
    _,
    then_goes _ _ c.next_sender-next.result _ _
        (c.next_sender-next.ensures.by_index _ _ _ (going_on c.args.stand _ _ c.args.packets.now c.args.bytes.now
        c.requires.0 c.if-packets-eq0.false)),
  ),
  c.requires.1,
)

pub returns : goal.returns
returns c =
    let going = going_on c.args.stand _ _ c.args.packets.now c.args.bytes.now c.requires.0 c.if-packets-eq0.false in
    let found = c.next_sender-next.ensures.by_index _ _ _ going in
    let gone = c.goes-gone.ensures.packet_value _ _ (then_goes _ _ c.next_sender-next.result _ _ found) in record { departs = rw c.has_gone.ensures (then_departs _ _ c.next_sender-next.result _ _ found c.goes-gone.result _ gone.0 gone.1 (sym going.some)); kept = rw c.has_gone.ensures (c.next_sender-next.ensures.kept); near = c.goes-gone.ensures.near }

-- `leaf::goes` meets its contract.
use mathlib.Core.Bool.{true}
use mathlib.Core.Path.{refl}
use native.Mathlib.Omega.{arith}
use Rattle.shape.specs.Shape.{tree_in}
use Rattle.steps.specs.Fields.{lent_link, totals_for}
use Rattle.steps.proofs.Goings.{goes_first, goes_takes, goes_pays, goes_counts}
use Rattle.steps.proofs.Goings.{goes_off, goes_more, goes_last, goes_rules, goes_leaf}
use Rattle.steps.proofs.leaf.goes.Goals as goal

pub first-packet-requires : goal.first-packet-requires
first-packet-requires c = goes_first c.requires.0.2

pub pay-requires : goal.pay-requires
pay-requires c =
    goes_pays c.requires.0.2 c.first-packet.ensures c.cost-cost.ensures

pub count-requires : goal.count-requires
count-requires c =
    let a = c.args in
    goes_counts c.requires.0.2 c.first-packet.ensures c.cost-cost.ensures a.packets.now
    a.bytes.now
    a.charged refl

pub take-requires : goal.take-requires
take-requires c =
    goes_takes c.requires.0.2

pub returns-then-waiting-gt1 : goal.returns-then-waiting-gt1
returns-then-waiting-gt1 c =
    let a = c.args in record {
      packet_value = (λ size place s. (
        c.first-packet.ensures (lent_link (tree_in a.shape.now) size a.active place a.balance.now a.residual.now a.start.now a.held.now
            a.lengths.now a.tags.now a.marks.now (totals_for true (tree_in a.shape.now) a.packets.now a.bytes.now
            a.charged)) a.held.now,
        goes_more s c.first-packet.ensures c.cost-cost.ensures _ _ c.pay.ensures (λ l. c.take.ensures l a.lengths.now a.tags.now
            a.marks.now)
            (c.count.ensures.0 (tree_in a.shape.now) a.charged (goes_rules s) (goes_leaf s)) c.grown-total.ensures (omega
            (arith, c.from-waiting.ensures, c.if-waiting-gt1.true)),
      ));
      near = (c.count.ensures.1, c.count.ensures.2);
    }

pub turn_off-off-requires : goal.turn_off-off-requires
turn_off-off-requires c =
    goes_off c.requires.0.2 c.first-packet.ensures c.cost-cost.ensures _ _ c.pay.ensures c.requires.1

pub returns : goal.returns
returns c =
    let a = c.args in record {
      packet_value = (λ size place s. (
        c.first-packet.ensures (lent_link (tree_in a.shape.now) size a.active place a.balance.now a.residual.now a.start.now a.held.now
            a.lengths.now a.tags.now a.marks.now (totals_for true (tree_in a.shape.now) a.packets.now a.bytes.now
            a.charged)) a.held.now,
        goes_last s c.first-packet.ensures c.cost-cost.ensures _ _ c.pay.ensures (λ l. c.take.ensures l a.lengths.now a.tags.now
            a.marks.now)
            (c.count.ensures.0 (tree_in a.shape.now) a.charged (goes_rules s) (goes_leaf s)) c.grown-total.ensures (omega
            (arith, c.from-waiting.ensures, c.if-waiting-gt1.false)) _ _ _ c.turn_off-off.ensures,
      ));
      near = (c.count.ensures.1, c.count.ensures.2);
    }

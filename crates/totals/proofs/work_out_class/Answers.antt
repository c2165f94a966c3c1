-- `totals::work_out_class` meets its contract.
use mathlib.Core.Path.{refl, ap}
use lib.ListN.{set}
use Rattle.totals.proofs.work_out_class.Goals as goal

pub returns-then-leaf : goal.returns-then-leaf
returns-then-leaf c = rw c.if-leaf.true (refl, refl)

pub sum_of-sum-requires : goal.sum_of-sum-requires
sum_of-sum-requires c = c.requires.1 c.if-leaf.false

pub returns : goal.returns
returns c =
    let a = c.args in
    rw c.if-leaf.false
    (ap (set a.packets.now a.i) c.sum_of-sum.ensures.0, ap (set a.bytes.now a.i) c.sum_of-sum.ensures.1)

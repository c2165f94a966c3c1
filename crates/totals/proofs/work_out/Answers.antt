-- `totals::work_out` meets its contract.
use mathlib.Core.Path.{refl, ◌∙◌}
use Rattle.shape.specs.Shape.{tree_in}
use Rattle.totals.proofs.WorkingOut.{flat_worked_out}
use Rattle.totals.proofs.work_out.Goals as goal

pub returns-then-not-sound : goal.returns-then-not-sound
returns-then-not-sound c =
    rw c.if-not-sound.true (refl, refl)

pub returns-then-children-leaves : goal.returns-then-children-leaves
returns-then-children-leaves c =
    let a = c.args in
    let t = tree_in a.shape.now in
    let on = c.if-not-sound.false in
    let pre = c.requires on in
    let flat = c.if-children-leaves.true ∙ c.leaves.ensures in
    rw on (
      flat_worked_out t pre.0 a.children.now pre.1 flat a.packets.now c.told-packets,
      flat_worked_out t pre.0 a.children.now pre.1 flat a.bytes.now c.told-bytes,
    )

pub work_out_inner-requires : goal.work_out_inner-requires
work_out_inner-requires c =
    let pre = c.requires c.if-not-sound.false in
    (pre.0, pre.1, c.told-packets, c.told-bytes, pre.2, pre.3)

pub returns : goal.returns
returns c =
    rw c.if-not-sound.false c.work_out_inner.ensures

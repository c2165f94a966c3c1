-- `once::send` meets its contract.
use mathlib.Core.Bool.{true, false}
use mathlib.Core.Path.{◌≡◌, sym, subst}
use Rattle.shape.specs.Shape.{tree_in}
use Rattle.state.specs.declared.Link.{Link}
use Rattle.state.specs.declared.Totals.{Totals}
use Rattle.totals.specs.WorkedOut.{totals_for, InTotal}
use Rattle.totals.proofs.Sounds.{sound_total, total_is, light_near}
use Rattle.steps.specs.declared.Went.{Went}
use Rattle.steps.specs.Fields.{lent_link, link_at}
use Rattle.steps.specs.Rounds.{InFields, Departs}
use Rattle.steps.proofs.once.send.Goals as goal
use Rattle.steps.proofs.once.send.Goals.{Start}

-- the totals are worked out
all : (w : Start) → let a = w.args in InTotal (tree_in a.shape.now) a.packets.now
    a.bytes.now
all w =
    let a = w.args in
    sound_total (link_at false (tree_in a.shape.now) a.stand a.balance.now a.residual.now a.start.now a.held.now
    a.lengths.now a.tags.now a.marks.now a.packets.now a.bytes.now) w.requires.0.sound
    w.told-packets
    w.told-bytes

-- the link with other totals
abbrev with-totals : Start → Totals → Link
with-totals w totals =
    let a = w.args in
    lent_link (tree_in a.shape.now) a.stand.size a.stand.active a.stand.place a.balance.now a.residual.now
    a.start.now
    a.held.now a.lengths.now a.tags.now a.marks.now totals

-- and so they are those of a link that is told to be sound
out : (w : Start) → let a = w.args in
    totals_for false (tree_in a.shape.now) a.packets.now a.bytes.now a.stand.charged
    ≡ totals_for true (tree_in a.shape.now) a.packets.now a.bytes.now a.stand.charged
out w =
    let a = w.args in
    total_is true (tree_in a.shape.now) a.packets.now a.bytes.now a.stand.charged (λ on. all w)

departs_at : (on : Totals → Link) {x y : Totals} {r : Went} {after : Link} → x ≡ y → Departs (on x) r after → Departs (on y) r after
departs_at on {r = r} {after = after} e d = subst (λ (x : Totals). Departs (on x) r after) e d

pub send-went-requires : goal.send-went-requires
send-went-requires c =
    (subst (λ (x : Totals). InFields (with-totals (goal.at.send-went-requires c).Start x)) (out (goal.at.send-went-requires c).Start) c.requires.0, c.requires.1, c.requires.2)

pub work_out-requires : goal.work_out-requires
work_out-requires c =
    let a = c.args in
    let rules = c.requires.0.sound.state.fits.tree in
    let near = c.send-went.ensures.near in
    let t = tree_in a.shape.now in
    λ on. (
      rules,
      c.requires.1,
      light_near t rules a.packets.now (all (goal.at.work_out-requires c).Start).room.packets near.0,
      light_near t rules a.bytes.now (all (goal.at.work_out-requires c).Start).room.bytes near.1,
    )

pub returns : goal.returns
returns c =
    rw (c.work_out.ensures.0, c.work_out.ensures.1)
    (departs_at (with-totals (goal.at.returns c).Start) (sym (out (goal.at.returns c).Start)) c.send-went.ensures.departs)

-- `once::arrive` meets its contract.
use mathlib.Core.Bool.{false}
use mathlib.Core.Path.{◌≡◌, sym, ap, subst, ◌∙◌}
use Rattle.shape.specs.Shape.{tree_in}
use Rattle.state.specs.declared.Link.{Link}
use Rattle.state.specs.declared.Totals.{Totals}
use Rattle.calls.specs.Arrival.{arrival_of}
use Rattle.totals.specs.WorkedOut.{totals_for}
use Rattle.totals.proofs.Sounds.{total_is, light_near}
use Rattle.steps.specs.Arrivals.{lent_waiting, TakesOn}
use Rattle.steps.proofs.once.arrive.Goals as goal

pub arrive-answer-requires : goal.arrive-answer-requires
arrive-answer-requires c =
    λ on. let pre = c.requires on in (pre.0, record { packets = pre.2.room.packets; bytes = pre.2.room.bytes })

pub work_out-requires : goal.work_out-requires
work_out-requires c =
    let a = c.args in
    let near = c.arrive-answer.ensures.near in
    λ on.
    let pre = c.requires on in
    let t = tree_in a.shape.now in (
      pre.0,
      pre.1,
      light_near t pre.0 a.packets.now pre.2.room.packets near.0,
      light_near t pre.0 a.bytes.now pre.2.room.bytes near.1,
    )

pub returns : goal.returns
returns c =
    let a = c.args in
    let t = tree_in a.shape.now in
    let out : totals_for false t a.packets.now a.bytes.now a.charged
    ≡ totals_for a.sound t a.packets.now a.bytes.now a.charged =
    total_is a.sound t a.packets.now a.bytes.now a.charged (λ on. (c.requires on).2)
    in
    λ l same takes.
    let on : Totals → Link = λ totals. lent_waiting l a.start.now a.held.now a.lengths.now a.tags.now
    a.marks.now totals in
    rw (c.work_out.ensures.0, c.work_out.ensures.1)
    (c.arrive-answer.ensures.arrives_on l same (λ is. subst (λ (x : Totals). TakesOn (on x)) out (takes is))
    ∙ ap (λ (x : Totals). arrival_of a.sound (on x) a.class a.packet) (sym out))

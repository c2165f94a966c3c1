-- `event::event` meets its contract: one of four kinds of events.
use mathlib.Core.Path.{◌≡◌, refl, sym, ap, ◌∙◌}
use native.Mathlib.Omega.{arith}
use lib.ListN.{drop}
use Rattle.plan.proofs.Told.{reads_none, reads_some}
use Rattle.checks.specs.Check.{refusal_at}
use Rattle.std.specs.Prelude.{Ok, Err, None}
use Rattle.state.specs.declared.Link.{Link}
use Rattle.shape.specs.Shape.{tree_in}
use Rattle.steps.specs.Fields.{link_at}
use Rattle.totals.proofs.Sounds.{sound_roomy}
use Rattle.plan.specs.Event.{used_of, event_at, EventRead}
use Rattle.answers.proofs.Events.{last_heard, arrival_heard, send_heard}
use Rattle.answers.proofs.event.event.Goals as goal
use Rattle.answers.proofs.event.event.Goals.{After-event_at-read, After-used, Start}

-- the link whose fields are lent
abbrev whole : Start → Link
whole st =
    let a = st.args in
    link_at a.run.sound (tree_in a.shape.now) a.run.stand a.balance.now a.residual.now a.start.now a.held.now
    a.lengths.now a.tags.now a.marks.now a.packets.now a.bytes.now

-- the event that was read stands at the place
read_at : (g : After-event_at-read) {e : EventRead} → g.event_at-read.result ≡ e
    → let d = g.args in event_at (drop d.run.place d.input.now) d.run.place ≡ e
read_at g told = sym g.event_at-read.ensures.value ∙ told

-- the place after it
moves_on : (u : After-used) {e : EventRead} → u.event_at-read.result ≡ e → u.used.result ≡ used_of e
moves_on u told = u.used.ensures.0 ∙ ap used_of told

pub overflow_add-after : goal.overflow_add-after
overflow_add-after c = omega (arith, c.event_at-read.ensures.result_bound, c.used.ensures.0)

pub arrives-reply-requires : goal.arrives-reply-requires
arrives-reply-requires c =
    λ on. let sound = c.requires.0.exactly.sound on in (sound.state.fits.tree, rw on at (sound_roomy (whole (goal.at.arrives-reply-requires c).Start) sound))

pub departs-went-requires : goal.departs-went-requires
departs-went-requires c =
    c.requires

pub returns-in-Ok-None : goal.returns-in-Ok-None
returns-in-Ok-None c =
    let d = c.args.run in record {
      hears = rw c.outcome.ensures (rw c.last_reply.ensures (
          last_heard (whole (goal.at.returns-in-Ok-None c).Start) c.args.input.now d.place d.sound c.requires.0 (Ok None) d.stand _
          (read_at (goal.at.returns-in-Ok-None c).After-event_at-read (reads_none c.in-Ok-None.is (rw c.in-Ok-None.is at c.in-Ok-None.field-0-is))) refl));
      kept = rw c.outcome.ensures (λ on. (c.requires.1 on).1);
    }

pub returns-in-Ok-Some-Arrive : goal.returns-in-Ok-Some-Arrive
returns-in-Ok-Some-Arrive c =
    let some = rw c.in-Ok-Some-Arrive.is at c.in-Ok-Some-Arrive.field-0-is in
    let read = reads_some c.in-Ok-Some-Arrive.is some (rw (c.in-Ok-Some-Arrive.is, some) at c.in-Ok-Some-Arrive.field-0-0-is) in
    let d = c.args.run in
    let told = c.requires.0 in record {
      hears = rw c.outcome-in-Ok-Some-Arrive.ensures (arrival_heard (whole (goal.at.returns-in-Ok-Some-Arrive c).Start) c.args.input.now d.place d.sound told c.in-Ok-Some-Arrive.a c.used.result
          c.arrives-reply.result d.stand _ (read_at (goal.at.returns-in-Ok-Some-Arrive c).After-event_at-read read) (moves_on (goal.at.returns-in-Ok-Some-Arrive c).After-used read)
          (c.arrives-reply.ensures (whole (goal.at.returns-in-Ok-Some-Arrive c).Start) refl (λ on. record { sound = told.exactly.sound on; wide = told.shape.bytes })));
      kept = rw c.outcome-in-Ok-Some-Arrive.ensures (λ on. (c.requires.1 on).1);
    }

pub returns-in-Ok-Some-SendNext : goal.returns-in-Ok-Some-SendNext
returns-in-Ok-Some-SendNext c =
    let some = rw c.in-Ok-Some-SendNext.is at c.in-Ok-Some-SendNext.field-0-is in
    let read = reads_some c.in-Ok-Some-SendNext.is some (rw (c.in-Ok-Some-SendNext.is, some) at c.in-Ok-Some-SendNext.field-0-0-is) in
    let d = c.args.run in record {
      hears = rw c.outcome-in-Ok-Some-SendNext.ensures (send_heard (whole (goal.at.returns-in-Ok-Some-SendNext c).Start) c.args.input.now d.place d.sound c.requires.0 c.departs-went.result c.used.result
          c.replied.result _ (read_at (goal.at.returns-in-Ok-Some-SendNext c).After-event_at-read read) (moves_on (goal.at.returns-in-Ok-Some-SendNext c).After-used read) c.replied.ensures
          c.departs-went.ensures.departs_as);
      kept = rw c.outcome-in-Ok-Some-SendNext.ensures (c.departs-went.ensures.kept);
    }

pub returns-in-Err : goal.returns-in-Err
returns-in-Err c =
    let d = c.args.run in record {
      hears = rw c.outcome-in-Err.ensures (rw c.last_reply-in-Err.ensures (
          last_heard (whole (goal.at.returns-in-Err c).Start) c.args.input.now d.place d.sound c.requires.0 (Err c.in-Err.refused) d.stand _
          (read_at (goal.at.returns-in-Err c).After-event_at-read c.in-Err.is) refl));
      kept = rw c.outcome-in-Err.ensures (λ on. (c.requires.1 on).1);
    }

-- `speed::by_value` meets its contract: what is left from here is what was to do from the start.
use Rattle.std.proofs.Common.{◌≡◌, ◌∙◌, ◌<◌, ℕ, List, Some, refl, sym, ap, subst}
use Rattle.plan.specs.declared.event.Event.{Event}
use Rattle.plan.specs.declared.event.Event.TheVariants.{Arrive, SendNext}
use Rattle.state.specs.declared.Packet.{Packet}
use Rattle.calls.specs.Run.{arrival, send, made}
use Rattle.speed.specs.declared.TimedEvent.{TimedEvent}
use Rattle.speed.specs.Timed.{timed_at, calls_left}
use Rattle.speed.proofs.Served.{served_starts, served_on, served_tally, served_link, timed_less}
use Rattle.speed.proofs.by_value.Goals as goal

pub loop-event-init : goal.loop-event-init
loop-event-init c = let a = c.args in served_starts a.input.now a.first a.start c.requires

-- less is left to do after an event that is a call
less : (input : List ℕ) (e next : TimedEvent) (x : Event) → e.call ≡ Some x → next ≡ timed_at e.more input e.place
    → calls_left next < calls_left e
less input e next x on after =
    subst (λ (y : TimedEvent). calls_left y < calls_left e) (sym after) (rw on (timed_less e.more input e.place))

pub loop-event-smaller-in-Arrive : goal.loop-event-smaller-in-Arrive
loop-event-smaller-in-Arrive c =
    less c.args.input.now c.loop-event.event c.event_at-event.result c.in-Some.call c.in-Some.is c.event_at-event.ensures

pub loop-event-preserved-in-Arrive : goal.loop-event-preserved-in-Arrive
loop-event-preserved-in-Arrive c =
    let a = c.args in
    let t = c.loop-event in
    let x = c.arrive-answered.result in
    let arrived = c.in-Arrive.a in
    served_on a.input.now a.first a.start t.link t.event c.event_at-event.result t.tally c.after_arrival-tally.result
    (made (arrival arrived.class c.packet_of.result) x.answer x.link) (Arrive arrived) t.invariant
    (c.in-Some.is ∙ ap (λ (y : Event). Some y) c.in-Arrive.is) (ap (λ (p : Packet). arrival arrived.class p) c.packet_of.ensures)
    c.arrive-answered.ensures c.after_arrival-tally.ensures c.event_at-event.ensures

pub loop-event-smaller : goal.loop-event-smaller
loop-event-smaller c =
    less c.args.input.now c.loop-event.event c.event_at-event-in-SendNext.result c.in-Some.call c.in-Some.is
    c.event_at-event-in-SendNext.ensures

pub loop-event-preserved : goal.loop-event-preserved
loop-event-preserved c =
    let a = c.args in
    let t = c.loop-event in
    let x = c.send-gone.result in
    served_on a.input.now a.first a.start t.link t.event c.event_at-event-in-SendNext.result t.tally c.after_send-tally.result
    (made send x.answer x.link) SendNext t.invariant (c.in-Some.is ∙ ap (λ (y : Event). Some y) c.in-SendNext.is) refl
    c.send-gone.ensures c.after_send-tally.ensures c.event_at-event-in-SendNext.ensures

pub returns : goal.returns
returns c =
    let a = c.args in
    let e = c.loop-event in
    record {
      tally_value = served_tally a.input.now a.first a.start e.link e.event e.tally e.invariant c.in_default.is;
      link_value = served_link a.input.now a.first a.start e.link e.event e.tally e.invariant c.in_default.is;
    }

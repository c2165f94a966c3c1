-- `next` meets its contract.
use mathlib.Core.Path.{◌≡◌, refl, sym, ap, subst, ◌∙◌}
use Prim.Native.Nat.{ℕ, ◌+◌}
use mathlib.Core.List.{List}
use native.Mathlib.Omega.{arith}
use lib.ListN.{length, drop}
use Rattle.plan.proofs.Told.{reads_none, reads_some}
use Rattle.plan.specs.declared.event.Event.TheVariants.{Arrive, SendNext}
use Rattle.std.specs.Prelude.{Ok, Err, Some, None}
use Rattle.plan.specs.Event.{used_of, event_at, EventRead}
use Rattle.calls.specs.Run.{arrival, send}
use Rattle.run.specs.Event.{packet_in, last_line}
use Rattle.run.proofs.Events.{used_fits}
use Rattle.published.specs.declared.Second.{Second}
use Rattle.published_run.specs.declared.SecondStep.{SecondStep}
use Rattle.published_run.specs.Steps.{last_of, CallsSecond, GivesSecond, GoesOnSecond}
use Rattle.published_run.proofs.next.Goals as goal
use Rattle.published_run.proofs.next.Goals.{After-read_event-event, After-used}

-- the event that was read stands at the place
read_at : (c : After-read_event-event) {e : EventRead} → c.read_event-event.result ≡ e
    → event_at (drop c.args.place c.args.input.now)
    c.args.place ≡ e
read_at c told =
    ap (λ (s : List ℕ). event_at s c.args.place) (sym c.events_after-rest.ensures.result_value)
    ∙ sym c.read_event-event.ensures ∙ told

-- an event's step, by the event that was read
gives_by : (l : Second) (input : List ℕ) (place : ℕ) (e : EventRead) (r : SecondStep) → event_at (drop place input) place ≡ e
    → GivesSecond l place e r → GoesOnSecond l input place r
gives_by l input place e r same g = subst (λ (x : EventRead). GivesSecond l place x r) (sym same) g

pub overflow_add-after : goal.overflow_add-after
overflow_add-after c =
    let a = c.args in
    omega (
      arith,
      used_fits a.input.now a.place c.read_event-event.result (read_at (goal.at.overflow_add-after c).After-read_event-event refl),
      c.used.ensures.0,
      ap length c.events_after-rest.ensures.result_value,
      c.events_after-rest.ensures.result_bound,
    )

-- the place after it
moves_on : (c : After-used) {e : EventRead} → c.read_event-event.result ≡ e → c.used.result ≡ used_of e
moves_on c told = c.used.ensures.0 ∙ ap used_of told

pub returns-in-Ok-None : goal.returns-in-Ok-None
returns-in-Ok-None c =
    let a = c.args in
    let none = reads_none c.in-Ok-None.is (rw c.in-Ok-None.is at c.in-Ok-None.field-0-is) in
    gives_by a.second a.input.now a.place (Ok None) c.last.result (read_at (goal.at.returns-in-Ok-None c).After-read_event-event none)
    (c.last.ensures ∙ ap (λ (e : EventRead). last_of (last_line e a.second.link) a.second a.place) none)

pub returns-in-Ok-Some-Arrive : goal.returns-in-Ok-Some-Arrive
returns-in-Ok-Some-Arrive c =
    let some = rw c.in-Ok-Some-Arrive.is at c.in-Ok-Some-Arrive.field-0-is in
    let read = reads_some c.in-Ok-Some-Arrive.is some (rw (c.in-Ok-Some-Arrive.is, some) at c.in-Ok-Some-Arrive.field-0-0-is) in
    let a = c.args in
    let told = read in
    let call = arrival c.in-Ok-Some-Arrive.a.class (packet_in c.in-Ok-Some-Arrive.a) in
    gives_by a.second a.input.now a.place (Ok (Some (Arrive c.in-Ok-Some-Arrive.a))) c.arrival.result (read_at (goal.at.returns-in-Ok-Some-Arrive c).After-read_event-event told)
    (subst (λ (n : ℕ). CallsSecond a.second call (a.place + n) c.arrival.result) (moves_on (goal.at.returns-in-Ok-Some-Arrive c).After-used told) c.arrival.ensures)

pub returns-in-Ok-Some-SendNext : goal.returns-in-Ok-Some-SendNext
returns-in-Ok-Some-SendNext c =
    let some = rw c.in-Ok-Some-SendNext.is at c.in-Ok-Some-SendNext.field-0-is in
    let read = reads_some c.in-Ok-Some-SendNext.is some (rw (c.in-Ok-Some-SendNext.is, some) at c.in-Ok-Some-SendNext.field-0-0-is) in
    let a = c.args in
    let told = read in
    gives_by a.second a.input.now a.place (Ok (Some SendNext)) c.send.result (read_at (goal.at.returns-in-Ok-Some-SendNext c).After-read_event-event told)
    (subst (λ (n : ℕ). CallsSecond a.second send (a.place + n) c.send.result) (moves_on (goal.at.returns-in-Ok-Some-SendNext c).After-used told) c.send.ensures)

pub returns-in-Err : goal.returns-in-Err
returns-in-Err c =
    let a = c.args in
    gives_by a.second a.input.now a.place (Err c.in-Err.field-0) c.last-in-Err.result
    (read_at (goal.at.returns-in-Err c).After-read_event-event c.in-Err.is)
    (c.last-in-Err.ensures ∙ ap (λ (e : EventRead). last_of (last_line e a.second.link) a.second a.place) c.in-Err.is)

-- `speed::event_at` meets its contract: it is the event at the place, where one is asked for.
use Rattle.plan.proofs.Told.{reads_none, reads_some}
use Rattle.std.specs.Prelude.{Ok, Err, Some, None}
use Rattle.std.proofs.Common.{◌≡◌, ℕ, suc, ◌-◌, List, length, drop, sym, refl, ap, ◌∙◌, arith}
use Rattle.plan.specs.Event.{used_of, event_at, EventRead}
use Rattle.run.proofs.Events.{used_fits}
use Rattle.speed.specs.Timed.{timed_by, timed_at}
use Rattle.speed.proofs.Served.{timed_by_lem}
use Rattle.speed.proofs.event_at.Goals as goal
use Rattle.speed.proofs.event_at.Goals.{After-read_event-read, After-used}

-- the event that was read at the place
read_is : (c : After-read_event-read) (e : EventRead) → c.read_event-read.result ≡ e
    → event_at (drop c.args.place c.args.input.now) c.args.place ≡ e
read_is c e told =
    ap (λ (s : List ℕ). event_at s c.args.place) (sym c.events_after-rest.ensures.result_value) ∙ sym c.read_event-read.ensures ∙ told

-- is the one that is asked for
asked_is : (c : After-read_event-read) (e : EventRead) → c.read_event-read.result ≡ e
    → timed_by (c.args.asked - 1) c.args.place e
    ≡ timed_at c.args.asked c.args.input.now c.args.place
asked_is c e told =
    let a = c.args in
    let some : suc (a.asked - 1) ≡ a.asked = omega (arith, c.if-asked-eq0.false) in
    timed_by_lem (a.asked - 1) a.input.now a.place e (read_is c e told)
    ∙ ap (λ (n : ℕ). timed_at n a.input.now a.place) some

pub returns-then-asked-eq0 : goal.returns-then-asked-eq0
unfolding timed_at
returns-then-asked-eq0 c = c.no_call.ensures ∙ rw c.if-asked-eq0.true refl

pub overflow_add-after : goal.overflow_add-after
overflow_add-after c =
    let a = c.args in
    let e = c.events_after-rest in
    let f = used_fits a.input.now a.place c.read_event-read.result (read_is (goal.at.overflow_add-after c).After-read_event-read _ refl) in
    omega (arith, c.used.ensures.0, f, ap length e.ensures.result_value, e.ensures.result_bound)

-- the place after it
moves_on : (u : After-used) {e : EventRead} → u.read_event-read.result ≡ e → u.used.result ≡ used_of e
moves_on u told = u.used.ensures.0 ∙ ap used_of told

pub returns-in-Ok-Some : goal.returns-in-Ok-Some
returns-in-Ok-Some c =
    let told = reads_some c.in-Ok-Some.is (rw c.in-Ok-Some.is at c.in-Ok-Some.field-0-is) refl in
    rw (moves_on (goal.at.returns-in-Ok-Some c).After-used told)
    (asked_is (goal.at.returns-in-Ok-Some c).After-read_event-read (Ok (Some c.in-Ok-Some.event)) told)

pub returns-in-Ok-None : goal.returns-in-Ok-None
returns-in-Ok-None c =
    c.no_call-in-Ok-None.ensures ∙ asked_is (goal.at.returns-in-Ok-None c).After-read_event-read (Ok None) (reads_none c.in-Ok-None.is (rw c.in-Ok-None.is at c.in-Ok-None.field-0-is))

pub returns-in-Err : goal.returns-in-Err
returns-in-Err c =
    c.no_call-in-Err.ensures
    ∙ asked_is (goal.at.returns-in-Err c).After-read_event-read (Err c.in-Err.field-0) c.in-Err.is

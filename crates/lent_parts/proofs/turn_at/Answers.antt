-- `lent_parts::turn_at` meets its contract: it is the turn of the event at the place.
use Rattle.std.proofs.Common.{◌≡◌, ℕ, ◌+◌, List, length, drop, leb, sym, ap, ◌∙◌, arith}
use Rattle.lines.specs.Line.{line_room}
use Rattle.plan.specs.Event.{event_at, EventRead}
use Rattle.run.proofs.Events.{used_fits}
use Rattle.lent_parts.specs.Turns.{turn_for, turn_at}
use Rattle.lent_parts.proofs.turn_at.Goals as goal

-- the event that was read at the place
read_is : (input rest : List ℕ) (place : ℕ) (read : EventRead) → rest ≡ drop place input → read ≡ event_at rest place
    → event_at (drop place input) place ≡ read
read_is input rest place read cut said = ap (λ (s : List ℕ). event_at s place) (sym cut) ∙ sym said

-- the turn, by that event
turn_is : (input : List ℕ) (room laid place : ℕ) (e : EventRead) → event_at (drop place input) place ≡ e
    → turn_for (leb (laid + line_room) room) laid place e ≡ turn_at input room laid place
unfolding turn_at
turn_is input room laid place e is = ap (turn_for (leb (laid + line_room) room) laid place) (sym is)

pub overflow_add-result : goal.overflow_add-result
overflow_add-result c =
    let a = c.args in
    let r = c.events_after-rest in
    let f = used_fits a.input.now a.place c.read_event-read.result
    (read_is a.input.now r.result.now a.place c.read_event-read.result r.ensures.result_value c.read_event-read.ensures) in
    omega (arith, f, c.used.ensures.0, ap length r.ensures.result_value, r.ensures.result_bound)

pub returns : goal.returns
returns c =
    let a = c.args in
    let r = c.events_after-rest in
    let read = c.read_event-read.result in
    rw (c.call_of.ensures, c.used.ensures.0, c.takes_one-fits.ensures)
    (turn_is a.input.now a.room a.laid a.place read (read_is a.input.now r.result.now a.place read r.ensures.result_value c.read_event-read.ensures))

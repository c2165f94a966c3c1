-- What one event of a run gives (R189 to R195). Demands 1 and 2.
use Rattle.plan.specs.declared.event.Event.TheVariants.{Arrive, SendNext}
use Rattle.checks.specs.Check.{Verdict, number}
use Rattle.std.specs.Prelude.{Bool, true, false, List, ◌≡◌, ℕ, ◌+◌, drop, Ok, Err, Some, None}
use Rattle.plan.specs.declared.Arrived.{Arrived}
use Rattle.plan.specs.Event.{used_of, event_at, EventRead}
use Rattle.state.specs.declared.Link.{Link}
use Rattle.state.specs.declared.Packet.{Packet}
use Rattle.state.specs.State.{meaning}
use Rattle.calls.specs.declared.Arrival.{Arrival}
use Rattle.calls.specs.declared.Departure.{Departure}
use Rattle.calls.specs.Run.{Call, arrival, send, Answer, Made, made, link_left, makes, waiting_in, Meets}
use Rattle.lines.specs.declared.Line.{Line}
use Rattle.lines.specs.declared.Line.TheVariants.{In, No, Out, Nothing, End, Stop}
use Rattle.run.specs.declared.Step.{Step}

-- `in` class length tag bytes, those that the arrival answers; `no` class length tag number, for a refused one (R17, R189, R190)
abbrev pub arrival_says : Verdict → ℕ → Packet → ℕ → Line
arrival_says (Ok _) class p bytes = In class p.length p.tag bytes
arrival_says (Err e) class p bytes = No class p.length p.tag (number e.0)

-- the packet of an arrival (R17, R189, R190)
abbrev pub packet_in : Arrived → Packet
packet_in a = record { length = a.length; tag = a.tag }

abbrev pub arrival_line : Arrival → Arrived → Line
arrival_line answer a = arrival_says answer.verdict a.class (packet_in a) answer.bytes.0

-- `out` class length tag rounds waited, those that the send answers; `none` for refusal 15, the only one of a send on a run's link (R17,
-- R191, R192, R314)
abbrev pub send_says : Verdict → Departure → Line
send_says (Ok _) d = Out d.class d.length d.tag d.rounds d.waited
send_says (Err _) d = Nothing

abbrev pub send_line : Departure → Line
send_line d = send_says d.verdict d

-- the line of a call that was made
abbrev pub call_line : Made → Line
call_line (made (arrival class p) answer after) = arrival_says answer.verdict class p answer.bytes.0
call_line (made send answer after) = send_line answer

-- the last line, of an event that is no call: `end` with the packets still waiting where the input ends, `stop` number place for a refused
-- record (R193, R194)
abbrev pub last_line : EventRead → Link → Line
last_line (Ok None) l = End (waiting_in (meaning l))
last_line (Ok (Some e)) l = End (waiting_in (meaning l))
last_line (Err e) l = Stop (number e.0) e.1

-- ---- one step of the run

-- a call was made, and the run goes on from a place
abbrev pub step_by : Made → ℕ → Step
step_by m place = record { line = call_line m; more = true; link = link_left m; place = place }

-- the run ends with an event that is no call
abbrev pub last_step : EventRead → Link → ℕ → Step
last_step e l place = record { line = last_line e l; more = false; link = l; place = place }

-- what an event at a place gives: a line, and whether the run goes on, with which link and at which place (R189 to R195)
abbrev pub event_gives : Bool → Link → ℕ → EventRead → Step
event_gives sound l place (Ok None) = last_step (Ok None) l place
event_gives sound l place (Ok (Some (Arrive a))) = step_by (makes sound l (arrival a.class (packet_in a))) (place + used_of (Ok (Some (Arrive a))))
event_gives sound l place (Ok (Some SendNext)) = step_by (makes sound l send) (place + used_of (Ok (Some SendNext)))
event_gives sound l place (Err e) = last_step (Err e) l place

unfoldable pub step_of : Bool → Link → List ℕ → ℕ → Step
step_of sound l input place = event_gives sound l place (event_at (drop place input) place)

-- a call on any record, answered as its contract says, after which the run goes on from a place
pub record Calls (l : Link) (call : Call) (place : ℕ) (r : Step) : Type 0 where
  pub answer : Answer call
  pub after : Link
  pub meets : Meets l (made call answer after)
  pub step : r ≡ step_by (made call answer after) place

-- what an event at a place gives on any record: only an arrival and a send are calls
abbrev pub Gives : Link → ℕ → EventRead → Step → Type 0
Gives l place (Ok None) r = r ≡ last_step (Ok None) l place
Gives l place (Ok (Some (Arrive a))) r = Calls l (arrival a.class (packet_in a)) (place + used_of (Ok (Some (Arrive a)))) r
Gives l place (Ok (Some SendNext)) r = Calls l send (place + used_of (Ok (Some SendNext))) r
Gives l place (Err e) r = r ≡ last_step (Err e) l place

abbrev pub GoesOn : Link → List ℕ → ℕ → Step → Type 0
GoesOn l input place r = Gives l place (event_at (drop place input) place) r

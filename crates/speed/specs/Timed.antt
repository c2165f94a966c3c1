-- What the timed loops answer: a recording's first events as a run, all its answers in one number, or its lines. No rule of its own.
use Rattle.plan.specs.declared.event.Event.{Event}
use Rattle.plan.specs.declared.event.Event.TheVariants.{Arrive, SendNext}
use Rattle.std.specs.Prelude.{◌≡◌, ℕ, zero, suc, ◌+◌, ◌*◌, ◌%◌, ◌^◌, Bool, true, cond, List, [], ◌∷◌, ◌++◌, length, drop, Ok, Err, Option, Some, None}
use Rattle.checks.specs.Check.{Exactly, Verdict}
use Rattle.plan.specs.declared.PlanRead.{PlanRead}
use Rattle.plan.specs.Event.{used_of, event_at, EventRead}
use Rattle.tree.specs.Size.{round_size}
use Rattle.state.specs.declared.Link.{Link}
use Rattle.sound.specs.Sound.{SoundLink}
use Rattle.calls.specs.declared.Departure.{Departure}
use Rattle.calls.specs.Run.{Call, arrival, send, Made, made, run_of, made_in}
use Rattle.run.specs.Event.{packet_in}
use Rattle.run.specs.Run.{begin_of, events_from}
use Rattle.parts.specs.Part.{part_of}
use Rattle.speed.specs.declared.TimedEvent.{TimedEvent}

-- ---- a run of a recording's first events

-- the calls of its first n events, made from the plan's fresh link; none where the plan is refused
unfoldable pub timed_run : ℕ → List ℕ → List Made
timed_run n input =
    let s = begin_of input in
    cond s.more (made_in (run_of true s.link (events_from n input s.place).calls)) []

-- a send as one number: class, length, rounds and tag; 1 where it is refused
abbrev pub send_number : Verdict → Departure → ℕ
send_number (Ok _) d = (d.class * 2 ^ 50 + d.length * 2 ^ 34 + d.rounds * 2 ^ 32 + d.tag) % 2 ^ 64
send_number (Err _) d = 1

-- one answer more: 33 times what it was, and the next
abbrev pub tallied : ℕ → ℕ → ℕ
tallied tally next = (tally * 33 + next) % 2 ^ 64

-- an arrival counts where it is refused, a send by its number
abbrev pub heard_arrival : Verdict → ℕ → ℕ
heard_arrival (Ok _) tally = tally
heard_arrival (Err _) tally = tallied tally 2

abbrev pub heard : ℕ → Made → ℕ
heard tally (made (arrival class p) answer after) = heard_arrival answer.verdict tally
heard tally (made send answer after) = tallied tally (send_number answer.verdict answer)

-- all answers of calls that were made, in one number
unfoldable pub tally_of : ℕ → List Made → ℕ
tally_of tally [] = tally
tally_of tally (m ∷ ms) = tally_of (heard tally m) ms

-- the lines of its events, one part of them into a buffer with this room; none where the plan is refused
unfoldable pub timed_text : List ℕ → ℕ → List ℕ
timed_text input room =
    let s = begin_of input in
    cond s.more (part_of true s.link input s.place room).text []

-- the answer is a text's length, and the buffer holds the text and then what it held from there on before
abbrev pub LaysText : List ℕ → List ℕ → ℕ → List ℕ → Type 0
LaysText text before r after = (r ≡ length text) × (after ≡ text ++ drop (length text) before)

-- how often a link is found sound, asked so many times: each time or never
abbrev pub SoundTimes : Link → ℕ → ℕ → Type 0
SoundTimes l times r = (sound : Bool) → Exactly sound (SoundLink l) → r ≡ cond sound times 0

-- the round size of the fresh link of a plan that was read; 0 where it is refused
abbrev pub fresh_size : Verdict → PlanRead → ℕ
fresh_size (Ok _) read = round_size read.tree
fresh_size (Err _) read = 0

-- ---- its events, one by one

-- an event that is no call: none is asked for after it
abbrev pub no_timed : ℕ → TimedEvent
no_timed place = record { call = None; place = place; more = 0 }

-- the event that was read at a place, with n more asked for
abbrev pub timed_by : ℕ → ℕ → EventRead → TimedEvent
timed_by n place (Ok None) = no_timed place
timed_by n place (Ok (Some e)) = record { call = Some e; place = place + used_of (Ok (Some e)); more = n }
timed_by n place (Err _) = no_timed place

-- the event at a place, one of so many that are asked for
unfoldable pub timed_at : ℕ → List ℕ → ℕ → TimedEvent
timed_at zero input place = no_timed place
timed_at (suc n) input place = timed_by n place (event_at (drop place input) place)

-- the call that an event is
abbrev pub call_in : Event → Call
call_in (Arrive a) = arrival a.class (packet_in a)
call_in SendNext = send

-- that call, if any, and then others
abbrev pub call_before : Option Event → List Call → List Call
call_before None calls = []
call_before (Some e) calls = call_in e ∷ calls

-- that call and those of the events after it
unfoldable pub calls_in : List ℕ → TimedEvent → List Call
calls_in input e = call_before e.call (events_from e.more input e.place).calls

-- an event that is a call, and those after it: the loops end because each call is one of those asked for
abbrev pub left_by : Option Event → ℕ → ℕ
left_by None more = 0
left_by (Some _) more = suc more

abbrev pub calls_left : TimedEvent → ℕ
calls_left e = left_by e.call e.more

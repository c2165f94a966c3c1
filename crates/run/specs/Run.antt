-- The lines of a whole run, from the input's bytes (R185 to R188). Demands 1 and 2.
use Rattle.plan.specs.declared.event.Event.TheVariants.{Arrive, SendNext}
use Rattle.std.specs.Prelude.{true, false, List, [], ◌∷◌, ◌++◌, map, ℕ, zero, suc, ◌+◌, length, drop, Ok, Err, Some, None}
use Rattle.checks.specs.Check.{first_broken, input_checks, Verdict, number}
use Rattle.plan.specs.declared.PlanRead.{PlanRead}
use Rattle.plan.specs.Event.{used_of, event_at, EventRead}
use Rattle.plan.specs.Reader.{plan_of}
use Rattle.state.specs.declared.Link.{Link}
use Rattle.state.specs.State.{no_link}
use Rattle.tree.specs.Size.{round_size}
use Rattle.calls.specs.Fresh.{fresh_of}
use Rattle.calls.specs.Run.{Call, arrival, send, run_of, made_in, last_link}
use Rattle.lines.specs.declared.Line.{Line}
use Rattle.lines.specs.declared.Line.TheVariants.{Link as LinkLine, Stop}
use Rattle.run.specs.declared.Step.{Step}
use Rattle.run.specs.Event.{packet_in, call_line, last_line}

-- `link` classes Q, and the events follow; or `stop` number place for a refused plan (R187, R188, R195)
abbrev pub plan_gives : Verdict → PlanRead → Step
plan_gives (Ok _) read = record {
  line = LinkLine read.tree.count (round_size read.tree);
  more = true;
  link = (fresh_of true read.tree).link;
  place = read.used;
}
plan_gives (Err e) read = record { line = Stop (number e.0) e.1; more = false; link = no_link; place = 0 }

unfoldable pub begin_of : List ℕ → Step
begin_of input = plan_gives (plan_of input).verdict (plan_of input)

-- what is read of the events from a place on: the calls, in order, and the event that is no call and ends them
pub record EventsRead : Type 0 where
  pub calls : List Call
  pub last : EventRead

abbrev pub no_call : EventRead → EventsRead
no_call e = record { calls = []; last = e }

abbrev pub call_first : Call → EventsRead → EventsRead
call_first call rest = record { calls = call ∷ rest.calls; last = rest.last }

-- an event, and those after the bytes that it used
abbrev pub event_first : EventRead → (ℕ → EventsRead) → EventsRead
event_first (Ok None) later = no_call (Ok None)
event_first (Ok (Some (Arrive a))) later = call_first (arrival a.class (packet_in a)) (later (used_of (Ok (Some (Arrive a)))))
event_first (Ok (Some SendNext)) later = call_first send (later (used_of (Ok (Some SendNext))))
event_first (Err e) later = no_call (Err e)

-- the events from a place on; n is more than there can be
unfoldable pub events_from : ℕ → List ℕ → ℕ → EventsRead
events_from zero input place = no_call (Ok None)
events_from (suc n) input place = event_first (event_at (drop place input) place) (λ used. events_from n input (place + used))

-- their lines: one for each call of the run that they make from a link, and the last line (R185)
unfoldable pub event_lines : Link → EventsRead → List Line
event_lines l events =
    let run = made_in (run_of true l events.calls) in
    map call_line run ++ (last_line events.last (last_link l run) ∷ [])

-- the lines of a run: one for the plan, and then those of the events (R185)
unfoldable pub lines_of : List ℕ → List Line
lines_of input =
    let s = begin_of input in
    s.line ∷ elim s.more [ true ↦ event_lines s.link (events_from (suc (length input)) input s.place) | false ↦ [] ]

-- what the program prints: 10 before all else, and then nothing runs (R2, R186)
abbrev pub lines_after : Verdict → List ℕ → List Line
lines_after (Ok _) input = lines_of input
lines_after (Err e) input = Stop (number e.0) e.1 ∷ []

unfoldable pub program_lines : List ℕ → List Line
program_lines input = lines_after (first_broken (input_checks (length input))) input

-- its first step: the plan's, or number 10 (R186)
abbrev pub input_gives : Verdict → List ℕ → Step
input_gives (Ok _) input = begin_of input
input_gives (Err e) input = record { line = Stop (number e.0) e.1; more = false; link = no_link; place = 0 }

unfoldable pub program_begins : List ℕ → Step
program_begins input = input_gives (first_broken (input_checks (length input))) input

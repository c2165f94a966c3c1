-- What the plan and each event of a run of the second engine give, and what a program over it prints.
use Rattle.plan.specs.declared.event.Event.TheVariants.{Arrive, SendNext}
use Rattle.std.specs.Prelude.{true, false, List, [], ◌∷◌, ◌≡◌, ℕ, ◌+◌, drop, replicate, Ok, Err, Some, None}
use Rattle.plan.specs.Event.{used_of, event_at, EventRead}
use Rattle.calls.specs.Run.{Call, arrival, send, Answer}
use Rattle.lines.specs.declared.Line.{Line}
use Rattle.run.specs.declared.Step.{Step}
use Rattle.run.specs.Event.{packet_in, call_line, last_line}
use Rattle.run.specs.Run.{program_begins}
use Rattle.published.specs.declared.Second.{Second}
use Rattle.published.specs.Second.{stands_for}
use Rattle.published.specs.Contract.{MadeSecond, made_second, second_left, as_first, MeetsSecond}
use Rattle.published_run.specs.declared.SecondStep.{SecondStep}

-- the first step is the first engine's; no class of its link has a quota
abbrev pub second_of_step : Step → SecondStep
second_of_step s = record {
  line = s.line;
  more = s.more;
  link = record { link = s.link; asked = 0; quotas = replicate 64 0 };
  place = s.place;
}

abbrev pub second_begins : List ℕ → SecondStep
second_begins input = second_of_step (program_begins input)

-- the run ends
abbrev pub last_of : Line → Second → ℕ → SecondStep
last_of line l place = record { line = line; more = false; link = l; place = place }

-- a call was made, and the run goes on from a place; its line is the first engine's
abbrev pub second_by : MadeSecond → ℕ → SecondStep
second_by m place = record { line = call_line (as_first m); more = true; link = second_left m; place = place }

-- a call on any record, answered as its contract says, after which the run goes on from a place
pub record CallsSecond (l : Second) (call : Call) (place : ℕ) (r : SecondStep) : Type 0 where
  pub answer : Answer call
  pub after : Second
  pub meets : MeetsSecond l (made_second call answer after)
  pub step : r ≡ second_by (made_second call answer after) place

-- what an event at a place gives on any record
abbrev pub GivesSecond : Second → ℕ → EventRead → SecondStep → Type 0
GivesSecond l place (Ok None) r = r ≡ last_of (last_line (Ok None) l.link) l place
GivesSecond l place (Ok (Some (Arrive a))) r = CallsSecond l (arrival a.class (packet_in a)) (place + used_of (Ok (Some (Arrive a)))) r
GivesSecond l place (Ok (Some SendNext)) r = CallsSecond l send (place + used_of (Ok (Some SendNext))) r
GivesSecond l place (Err e) r = r ≡ last_of (last_line (Err e) l.link) l place

abbrev pub GoesOnSecond : Second → List ℕ → ℕ → SecondStep → Type 0
GoesOnSecond l input place r = GivesSecond l place (event_at (drop place input) place) r

-- the same step of the first engine
abbrev pub step_first : SecondStep → Step
step_first s = record { line = s.line; more = s.more; link = stands_for s.link; place = s.place }

-- a program over the steps prints these lines after a step: one for each further step, until the run ends
pub data Prints (input : List ℕ) : SecondStep → List Line → Type 0 where
  ended : (s : SecondStep) → s.more ≡ false → Prints input s []
  printed : (s next : SecondStep) (lines : List Line) → s.more ≡ true → GoesOnSecond s.link input s.place next
      → Prints input next lines → Prints input s (next.line ∷ lines)

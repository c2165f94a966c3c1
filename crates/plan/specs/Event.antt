-- What the event reader says of the rest of the input (R44, R64 to R67). Demand 1.
use Rattle.checks.specs.declared.Refused.{Refused}
use Rattle.plan.specs.declared.event.Event.{Event}
use Rattle.plan.specs.declared.event.Event.TheVariants.{Arrive, SendNext}
use Rattle.checks.specs.declared.Refusal.TheVariants.{Cut, UnknownKind}
use Rattle.std.specs.Prelude.{cond, List, [], ◌∷◌, ℕ, Option, Some, None, Result, Ok, Err}
use Rattle.checks.specs.Check.{Check, check, first_broken, Verdict}
use Rattle.plan.specs.declared.Arrived.{Arrived}
use Rattle.plan.specs.declared.kind.Section.TheVariants.{Events}
use Rattle.plan.specs.Kind.{gives_arrival}
use Rattle.plan.specs.Record.{byte_at, number16, number32, kind_at, missing, unknown, cut, body_of}

-- class 1, length 2, tag 4 (R44)
abbrev pub arrived_of : List ℕ → Arrived
arrived_of body = record { class = byte_at body 0; length = number16 body 1; tag = number32 body 3 }

-- an event record is checked in the order 2, 1, at its first byte (R65)
abbrev pub event_checks : List ℕ → ℕ → List Check
event_checks rest place = check UnknownKind (unknown Events rest) place ∷ check Cut (cut rest) place ∷ []

-- what the event reader says: an event, none where the input has ended, or what is refused (R64 to R66)
abbrev pub EventRead : Type 0
EventRead = Result (Option Event) Refused

-- the verdict of each case of the event reader's answer (R66)
abbrev pub verdict_of : EventRead → Verdict
verdict_of (Ok None) = Ok tt
verdict_of (Ok (Some (Arrive a))) = Ok tt
verdict_of (Ok (Some SendNext)) = Ok tt
verdict_of (Err e) = Err e

-- the bytes it used (R67)
abbrev pub used_of : EventRead → ℕ
used_of (Ok None) = 0
used_of (Ok (Some (Arrive a))) = 8
used_of (Ok (Some SendNext)) = 1
used_of (Err _) = 0

-- the record that passed its checks (R64, R65)
unfoldable pub event_of : List ℕ → EventRead
event_of rest = cond (gives_arrival (kind_at rest)) (Ok (Some (Arrive (arrived_of (body_of rest))))) (Ok (Some SendNext))

abbrev pub judged : Verdict → EventRead → EventRead
judged (Ok _) e = e
judged (Err r) e = Err r

-- the end of input between events is the normal end (R64, R66)
unfoldable pub event_at : List ℕ → ℕ → EventRead
event_at rest place = cond (missing rest) (Ok None) (judged (first_broken (event_checks rest place)) (event_of rest))

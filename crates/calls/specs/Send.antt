-- A send on any link record (R153, R159 to R163). Demands 1 and 2.
use Rattle.checks.specs.declared.Refusal.TheVariants.{NotSound, NothingWaits}
use Rattle.std.specs.Prelude.{Bool, not, List, [], ◌∷◌, ◌≡◌, ℕ, length, Ok, Err}
use Rattle.checks.specs.Check.{Check, check, first_broken, Exactly, Verdict}
use Rattle.state.specs.declared.Link.{Link}
use Rattle.state.specs.declared.Waiting.{Waiting}
use Rattle.state.specs.Mark.{since}
use Rattle.state.specs.Queue.{Shaped}
use Rattle.state.specs.State.{State, meaning}
use Rattle.sound.specs.Sound.{SoundLink}
use Rattle.rules.specs.Active.{some_waits}
use Rattle.rules.specs.Sending.{Trace, trace_of}
use Rattle.rules.specs.After.{link_after}
use Rattle.calls.specs.declared.Departure.{Departure}
use Rattle.calls.specs.declared.AfterSend.{AfterSend}

-- a send is checked in the order 11, 15, both at 0; 15: no packet waits (R153, R159, R160)
abbrev pub send_checks : Bool → State → List Check
send_checks sound s = check NotSound (not sound) 0 ∷ check NothingWaits (not (some_waits s)) 0 ∷ []

-- the answer: class, length, tag, the number of rounds opened in the call (R161), and the running total then, less the packet's mark (R311)
abbrev pub goes : ℕ → Waiting → ℕ → ℕ → Departure
goes class p rounds total = record {
  verdict = Ok tt;
  class = class;
  length = p.length;
  tag = p.tag;
  rounds = rounds;
  waited = since total p.mark;
}

-- all other numbers of a refused send are 0 (R163, R311)
abbrev pub refused_send : Verdict → Departure
refused_send verdict = record { verdict = verdict; class = 0; length = 0; tag = 0; rounds = 0; waited = 0 }

-- an answer and the link after it (R164)
abbrev pub send_leaves : Departure → Link → AfterSend
send_leaves answer link = record { answer = answer; link = link }

-- a send that goes is read off its trace; the link after it is in the trace's state, and the total is that link's (R17, R161, R311)
abbrev pub departs : Link → Trace → AfterSend
departs l trace =
    let after = link_after l trace in
    send_leaves (goes trace.class trace.packet (length trace.turns) after.totals.charged) after

-- a refused send gives the very same record (R162, R163, R197)
abbrev pub send_gives : Verdict → Link → AfterSend
send_gives (Ok _) l = departs l (trace_of (meaning l))
send_gives (Err e) l = send_leaves (refused_send (Err e)) l

unfoldable pub send_of : Bool → Link → AfterSend
send_of sound l = send_gives (first_broken (send_checks sound (meaning l))) l

-- what a send on any record gives; on a sound one it gives a sound one (R116, R199). A record's lists have the lengths of its arrays.
pub record Sends (l : Link) (r : AfterSend) : Type 0 where
  pub shape : Shaped l
  pub sound : Bool
  pub exactly : Exactly sound (SoundLink l)
  pub answer : r ≡ send_of sound l
  pub keeps : SoundLink l → SoundLink r.link

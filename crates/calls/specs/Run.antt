-- The calls on a link, what they answer, and a run: calls one after the other, each on the link that the last one left. What else speaks
-- of a run, the bounded wait, the marked cases and the lines, is read off this. Demands 1 to 3.
use Rattle.checks.specs.Check.{Verdict}
use Rattle.std.specs.Prelude.{Bool, List, [], ◌∷◌, ◌++◌, map, ℕ, get_or, Ok, Err}
use Rattle.state.specs.declared.Link.{Link}
use Rattle.state.specs.declared.Packet.{Packet}
use Rattle.state.specs.State.{State, meaning}
use Rattle.rules.specs.Sending.{Turn, trace_of}
use Rattle.calls.specs.declared.Arrival.{Arrival}
use Rattle.calls.specs.declared.Departure.{Departure}
use Rattle.calls.specs.Arrival.{arrival_leaves, arrival_of, Arrives}
use Rattle.calls.specs.Send.{send_leaves, send_of, Sends}

-- a call on a link: an arrival of a packet to a class, or a send
pub data Call : Type 0 where
  arrival : ℕ → Packet → Call
  send : Call

-- what each of them answers
abbrev pub Answer : Call → Type 0
Answer (arrival class p) = Arrival
Answer send = Departure

-- a call that was made, its answer, and the link that it left
pub data Made : Type 0 where
  made : (call : Call) → Answer call → Link → Made

abbrev pub call_of : Made → Call
call_of (made call answer after) = call

abbrev pub link_left : Made → Link
link_left (made call answer after) = after

-- ---- a run by the rules

-- what a call gives, on a link that is sound or is not
abbrev pub makes : Bool → Link → Call → Made
makes sound l (arrival class p) = made (arrival class p) (arrival_of sound l class p).answer (arrival_of sound l class p).link
makes sound l send = made send (send_of sound l).answer (send_of sound l).link

-- the rounds that closed in a call on a link, each with the round that opened in its place: those of the trace of a send that goes; no
-- other call has any
abbrev pub turns_by : Verdict → Link → List Turn
turns_by (Ok _) l = (trace_of (meaning l)).turns
turns_by (Err _) l = []

abbrev pub turns_in : Link → Made → List Turn
turns_in l (made (arrival class p) answer after) = []
turns_in l (made send answer after) = turns_by answer.verdict l

-- a moment of a run: a round has closed and another opened, or a call has been made; the rounds of a send come before its answer
pub data Moment : Type 0 where
  closed : Turn → Moment
  called : Made → Moment

-- the moments of a run from a link (R185)
unfoldable pub run_of : Bool → Link → List Call → List Moment
run_of sound l [] = []
run_of sound l (call ∷ calls) =
    let m = makes sound l call in
    map closed (turns_in l m) ++ (called m ∷ run_of sound (link_left m) calls)

-- the calls that were made, among moments; and the rounds that closed
unfoldable pub made_in : List Moment → List Made
made_in [] = []
made_in (closed turn ∷ moments) = made_in moments
made_in (called m ∷ moments) = m ∷ made_in moments

unfoldable pub closed_in : List Moment → List Turn
closed_in [] = []
closed_in (closed turn ∷ moments) = turn ∷ closed_in moments
closed_in (called m ∷ moments) = closed_in moments

-- the link that the last of some calls left
unfoldable pub last_link : Link → List Made → Link
last_link l [] = l
last_link l (m ∷ ms) = last_link (link_left m) ms

-- the packets still waiting in a state: the root's total (R193; in a sound one those of all queues: `root_counts`, rules/proofs/Counted)
abbrev pub waiting_in : State → ℕ
waiting_in s = get_or s.totals.packets 0 0

-- ---- a run of the library

-- a call that was answered as its contract says
abbrev pub Meets : Link → Made → Type 0
Meets l (made (arrival class p) answer after) = Arrives l class p (arrival_leaves answer after)
Meets l (made send answer after) = Sends l (send_leaves answer after)

-- calls one after the other, each answered so, on the link that the last one left; from a sound link they are those of `run_of` (`run_is`,
-- proofs/Runs) (R202)
unfoldable pub Run : Link → List Made → Type 0
Run l [] = Unit {0}
Run l (m ∷ ms) = Meets l m × Run (link_left m) ms

-- the moments of calls that were made from a link: the rounds that closed in a send come before its answer. From a sound link those of a
-- run are those of `run_of` (`moments_are`, proofs/Runs) (R249)
unfoldable pub moments_of : Link → List Made → List Moment
moments_of l [] = []
moments_of l (m ∷ ms) = map closed (turns_in l m) ++ (called m ∷ moments_of (link_left m) ms)

-- What the calls over the fields of a link say: the rules of a call on the link that they make up; no rule of its own. Demands 1 and 2.
use Rattle.std.specs.Prelude.{Bool, true, cond, List, ◌≡◌, ℕ, ltb, get_or}
use Rattle.checks.specs.Check.{Exactly}
use Rattle.state.specs.declared.Link.{Link}
use Rattle.state.specs.declared.Packet.{Packet}
use Rattle.state.specs.declared.Round.{Round}
use Rattle.state.specs.declared.Totals.{Totals}
use Rattle.state.specs.Queue.{queued, with_totals}
use Rattle.state.specs.State.{link_in_round}
use Rattle.calls.specs.declared.Arrival.{Arrival}
use Rattle.calls.specs.declared.Departure.{Departure}
use Rattle.calls.specs.declared.PanelTotals.{PanelTotals}
use Rattle.calls.specs.declared.ClassTotals.{ClassTotals}
use Rattle.fields.specs.declared.Changed.{Changed}
use Rattle.sound.specs.Sound.{SoundLink}
use Rattle.calls.specs.Arrival.{arrival_leaves, arrival_of}
use Rattle.calls.specs.Send.{send_leaves, send_of}

-- an arrival over the fields of a link, with its answer and the link that the fields make up after it
pub record ArrivesIn (l : Link) (class : ℕ) (p : Packet) (answer : Arrival) (after : Link) : Type 0 where
  pub sound : Bool
  pub exactly : Exactly sound (SoundLink l)
  pub gives : arrival_leaves answer after ≡ arrival_of sound l class p

abbrev pub changed_to : Departure → List ℕ → List ℕ → Totals → Round → Changed
changed_to answer start held totals round = record { start = start; held = held; totals = totals; answer = answer; round = round }

-- the link with the fields that a send may change
abbrev pub changed_link : Link → Changed → Link
changed_link l r =
    with_totals (queued (link_in_round l r.round) r.start r.held l.lengths l.tags l.marks) r.totals

-- a send over the fields of a sound link
abbrev pub GoesIn : Link → Changed → Type 0
GoesIn l r = send_leaves r.answer (changed_link l r) ≡ send_of true l

-- a send over the fields of a link
pub record SendsIn (l : Link) (r : Changed) : Type 0 where
  pub sound : Bool
  pub exactly : Exactly sound (SoundLink l)
  pub gives : send_leaves r.answer (changed_link l r) ≡ send_of sound l

-- one class number's totals, out of what the panel is told of all
abbrev pub class_in : PanelTotals → ℕ → ClassTotals
class_in told i = record {
  verdict = told.verdict;
  packets = cond (ltb 63 i) 0 (get_or told.totals.packets i 0);
  bytes = record { 0 = cond (ltb 63 i) 0 (get_or told.totals.bytes i 0) };
}

-- What a send does to the queues (R200): while a packet waits, a send on a sound state sends one. Demand 2.
use Rattle.checks.specs.declared.Refusal.TheVariants.{NothingWaits}
use Rattle.checks.specs.Check.{refusal_at}
use Rattle.std.specs.Prelude.{true, false, ◌∷◌, ◌≡◌, ℕ, ◌+◌, Ok, Err}
use Rattle.tree.specs.Class.{is_leaf}
use Rattle.state.specs.declared.Link.{Link}
use Rattle.units.specs.Cost.{cost_of}
use Rattle.state.specs.declared.Packet.{Packet}
use Rattle.state.specs.declared.Waiting.{Waiting}
use Rattle.state.specs.Mark.{unmarked, wrapped, since}
use Rattle.state.specs.State.{meaning, queue_at}
use Rattle.rules.specs.Active.{some_waits}
use Rattle.calls.specs.declared.Departure.{Departure}
use Rattle.calls.specs.declared.AfterSend.{AfterSend}

-- the packet that a send answers
abbrev pub packet_of : Departure → Packet
packet_of d = record { length = d.length; tag = d.tag }

-- a send sends: it passes, its class is a leaf of the plan, its packet is the first of that leaf's queue, which loses it, and no other
-- queue changes (R200); its charge joins the running total, which it answers less the packet's mark (R310, R311)
pub record SendsFirst (l : Link) (d : AfterSend) : Type 0 where
  pub passes : d.answer.verdict ≡ Ok tt
  pub leaf : is_leaf l.tree d.answer.class ≡ true
  pub packet : Waiting
  pub answered : packet_of d.answer ≡ unmarked packet
  pub queue : queue_at (meaning l) d.answer.class ≡ packet ∷ queue_at (meaning d.link) d.answer.class
  pub charged : d.link.totals.charged ≡ wrapped (l.totals.charged + cost_of packet.length)
  pub waited : d.answer.waited ≡ since d.link.totals.charged packet.mark
  pub others : (k : ℕ) → (k ≡ d.answer.class → ⊥) → queue_at (meaning d.link) k ≡ queue_at (meaning l) k

-- while a packet waits, a send sends one; 15 exactly when none waits (R200)
pub record Progress (l : Link) (d : AfterSend) : Type 0 where
  pub sends : some_waits (meaning l) ≡ true → SendsFirst l d
  pub none : some_waits (meaning l) ≡ false → d.answer.verdict ≡ Err (refusal_at NothingWaits 0)
  pub only_then : d.answer.verdict ≡ Err (refusal_at NothingWaits 0) → some_waits (meaning l) ≡ false

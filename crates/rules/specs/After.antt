-- The record of a link after the steps of a send: what it means is the rules', where its packets lie is the code's. Demand 2.
use Rattle.std.specs.Prelude.{ℕ, length}
use Rattle.state.specs.declared.Link.{Link}
use Rattle.state.specs.declared.Waiting.{Waiting}
use Rattle.state.specs.Queue.{taken_first}
use Rattle.state.specs.State.{State, meaning, link_in_round}
use Rattle.rules.specs.Opening.{opened}
use Rattle.rules.specs.Sending.{sent_state, Trace}

-- the link in another state that has the same tree and queues
abbrev pub link_in : Link → State → Link
link_in l s = link_in_round l s.round

-- the link when a round has opened
abbrev pub opened_link : Link → Link
opened_link l = link_in l (opened (meaning l))

-- the link when leaf i has sent its first packet, whose place is free
abbrev pub sent_link : Link → ℕ → Link
sent_link l i = taken_first (link_in l (sent_state (meaning l) i)) i

-- the link after a send: its state is the trace's
abbrev pub link_after : Link → Trace → Link
link_after l trace = taken_first (link_in l trace.state) trace.class

-- what a send gives: the packet that goes, its class, the rounds opened in the call, and the link after it; read off its trace
pub record Sent : Type 0 where
  pub class : ℕ
  pub packet : Waiting
  pub rounds : ℕ
  pub link : Link

abbrev pub sent_by : Link → Trace → Sent
sent_by l trace = record { class = trace.class; packet = trace.packet; rounds = length trace.turns; link = link_after l trace }

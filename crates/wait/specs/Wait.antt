-- A run up to one packet's departure, read off the calls that were made and their answers alone; and the bound. Demand 3.
use Rattle.std.specs.Prelude.{Bool, true, false, List, [], ◌∷◌, ℕ, zero, suc, ◌+◌, ◌*◌, ◌-◌, ◌/◌, eqb}
use Rattle.checks.specs.Check.{passed}
use Rattle.units.specs.Cost.{cost_of}
use Rattle.tree.specs.Class.{weight_of}
use Rattle.tree.specs.Size.{round_size}
use Rattle.state.specs.declared.Link.{Link}
use Rattle.state.specs.declared.Packet.{Packet}
use Rattle.state.specs.Mark.{unmarked}
use Rattle.state.specs.Queue.{no_packet}
use Rattle.calls.specs.declared.Departure.{Departure}
use Rattle.calls.specs.Progress.{packet_of}
use Rattle.calls.specs.Run.{arrival, send, Made, made}

-- what was sent from some moment on, up to and including the packet that is followed, whether it has gone, the packet that went as it, and
-- what the send answered by which it went (R312)
pub record Followed : Type 0 where
  pub sent : ℕ
  pub gone : Bool
  pub packet : Packet
  pub waited : ℕ

abbrev pub still_waits : Followed
still_waits = record { sent = 0; gone = false; packet = unmarked no_packet; waited = 0 }

abbrev pub went_by : Departure → Followed
went_by d = record { sent = 0; gone = true; packet = packet_of d; waited = d.waited }

abbrev pub more : ℕ → Followed → Followed
more bytes f = record { sent = bytes + f.sent; gone = f.gone; packet = f.packet; waited = f.waited }

-- one send of the run: where no packet goes, nothing changes; another class's packet leaves the k packets before the one that is followed;
-- a packet of its own class leaves one fewer, and where none was before it, it goes (R16, R202)
abbrev pub one_send : (goes own : Bool) → Departure → ℕ → (ℕ → Followed) → Followed
one_send false own d k later = later k
one_send true false d k later = more (cost_of d.length) (later k)
one_send true true d zero later = more (cost_of d.length) (went_by d)
one_send true true d (suc k) later = more (cost_of d.length) (later k)

-- the run up to the departure of the packet of class i that has k packets before it (R202, R312)
unfoldable pub followed : ℕ → ℕ → List Made → Followed
followed i k [] = still_waits
followed i k (made (arrival class p) answer after ∷ rest) = followed i k rest
followed i k (made send answer after ∷ rest) =
    one_send (passed answer.verdict) (eqb answer.class i) answer k (λ m. followed i m rest)

-- how many of the calls are sends
unfoldable pub sends_in : List Made → ℕ
sends_in [] = 0
sends_in (made (arrival class p) answer after ∷ rest) = sends_in rest
sends_in (made send answer after ∷ rest) = suc (sends_in rest)

-- d over w, rounded up (R202)
abbrev pub over_rounded_up : ℕ → ℕ → ℕ
over_rounded_up d w = (d + w - 1) / w

-- the bound: D over w rounded up, plus 1, times Q (R202)
abbrev pub bound : ℕ → ℕ → ℕ → ℕ
bound d w q = (over_rounded_up d w + 1) * q

-- of class i of a link with D bytes in its queue: Q is the whole tree's under both rules (R202, R236)
abbrev pub bound_of : Link → ℕ → ℕ → ℕ
bound_of l i d = bound d (weight_of l.tree i) (round_size l.tree)

-- What a packet would be promised if it came now (R285): the answer of its arrival, and the bound with that answer's bytes. Demands 1
-- and 3.
use Rattle.checks.specs.Check.{Verdict}
use Rattle.std.specs.Prelude.{◌≡◌, ℕ, Ok, Err}
use Rattle.state.specs.declared.Link.{Link}
use Rattle.state.specs.declared.Packet.{Packet}
use Rattle.calls.specs.declared.Arrival.{Arrival}
use Rattle.calls.specs.declared.AfterArrival.{AfterArrival}
use Rattle.calls.specs.Arrival.{Arrives}
use Rattle.wait.specs.Wait.{bound_of}
use Rattle.offered.specs.declared.Offered.{Offered}

-- a packet of this length; its tag has no say
abbrev pub of_length : ℕ → Packet
of_length n = record { length = n; tag = 0 }

-- an accepted arrival's bytes are D, and the wait is its bound; a refused one has neither (R285)
abbrev pub wait_by : Verdict → Link → ℕ → ℕ → ℕ
wait_by (Ok _) l class d = bound_of l class d
wait_by (Err _) l class d = 0

abbrev pub offered_by : Arrival → Link → ℕ → Offered
offered_by answer l class = record {
  verdict = answer.verdict;
  bytes = answer.bytes;
  wait = record { 0 = wait_by answer.verdict l class answer.bytes.0 };
}

-- what is offered is what the arrival would answer, if it came now (R285)
pub record Offers (l : Link) (class n : ℕ) (r : Offered) : Type 0 where
  pub after : AfterArrival
  pub arrives : Arrives l class (of_length n) after
  pub answer : r ≡ offered_by after.answer l class

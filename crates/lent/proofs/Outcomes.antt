-- A call on a lent link has one outcome: its contract leaves one answer and one record at exit, for every record at entry. A refused call
-- leaves the record as it was. Demands 1 and 2.
use mathlib.Core.Path.{◌≡◌, sym, ap, ◌∙◌}
use Prim.Native.Nat.{ℕ}
use native.Mathlib.Omega.{arith}
use Rattle.checks.specs.declared.Refusal.{Refusal}
use Rattle.std.specs.Prelude.{Ok, Err}
use Rattle.checks.specs.Check.{first_broken, Verdict, refusal_at}
use Rattle.state.specs.declared.Link.{Link}
use Rattle.state.specs.declared.Packet.{Packet}
use Rattle.calls.specs.declared.Arrival.{Arrival}
use Rattle.calls.specs.declared.AfterArrival.{AfterArrival}
use Rattle.calls.specs.declared.Departure.{Departure}
use Rattle.calls.specs.declared.AfterSend.{AfterSend}
use Rattle.state.specs.State.{meaning}
use Rattle.calls.specs.Arrival.{arrival_leaves, arrival_checks, arrival_gives, arrival_of, Arrives}
use Rattle.calls.specs.Send.{send_leaves, send_checks, send_gives, send_of, Sends}
use Rattle.calls.proofs.Arrivals.{arrival_one_answer}
use Rattle.calls.proofs.Departures.{send_one_answer}

-- any two outcomes of an arrival are equal
pub arrival_one_outcome : (l : Link) (i : ℕ) (p : Packet) (v w : Arrival) (m n : Link) → Arrives l i p (arrival_leaves v m)
    → Arrives l i p (arrival_leaves w n) → (v ≡ w) × (m ≡ n)
arrival_one_outcome l i p v w m n x y =
    let e = arrival_one_answer l i p (arrival_leaves v m) (arrival_leaves w n) x y in
    (ap (λ (a : AfterArrival). a.answer) e, ap (λ (a : AfterArrival). a.link) e)

-- any two outcomes of a send are equal
pub send_one_outcome : (l : Link) (d c : Departure) (m n : Link) → Sends l (send_leaves d m) → Sends l (send_leaves c n) → (d ≡ c) × (m ≡ n)
send_one_outcome l d c m n x y =
    let e = send_one_answer l (send_leaves d m) (send_leaves c n) x y in
    (ap (λ (a : AfterSend). a.answer) e, ap (λ (a : AfterSend). a.link) e)

-- a verdict that passes is no refusal
abbrev passes : Verdict → ℕ
passes (Ok _) = 1
passes (Err _) = 0

-- a refused arrival leaves the record as it was, to the last free place
pub refused_arrival_keeps : (l : Link) (i : ℕ) (p : Packet) (a : Arrival) (n : Refusal) (q : ℕ) (m : Link) → a.verdict ≡ Err (refusal_at n q)
    → Arrives l i p (arrival_leaves a m) → m ≡ l
unfolding arrival_of
refused_arrival_keeps l i p a n q m refused x = go (first_broken (arrival_checks x.sound (meaning l) i p)) x.answer
  where
    go : (v : Verdict) → arrival_leaves a m ≡ arrival_gives v l i p → m ≡ l
    go (Ok _) e = let z : ◌≡◌ {A = ℕ} 0 1 = sym (ap passes refused) ∙ ap (λ (r : AfterArrival). passes r.answer.verdict) e in
        absurd (omega (arith, z))
    go (Err _) e = ap (λ (r : AfterArrival). r.link) e

-- and so does a refused send
pub refused_send_keeps : (l : Link) (d : Departure) (n : Refusal) (q : ℕ) (m : Link) → d.verdict ≡ Err (refusal_at n q) → Sends l (send_leaves d m) → m ≡ l
unfolding send_of
refused_send_keeps l d n q m refused x = go (first_broken (send_checks x.sound (meaning l))) x.answer
  where
    go : (v : Verdict) → send_leaves d m ≡ send_gives v l → m ≡ l
    go (Ok _) e = let z : ◌≡◌ {A = ℕ} 0 1 = sym (ap passes refused) ∙ ap (λ (r : AfterSend). passes r.answer.verdict) e in
        absurd (omega (arith, z))
    go (Err _) e = ap (λ (r : AfterSend). r.link) e

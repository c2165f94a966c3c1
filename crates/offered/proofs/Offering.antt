-- An offer has one answer, and what it says is kept by the packet that comes then. Demands 1 and 3.
use mathlib.Core.List.{List}
use mathlib.Core.Path.{◌≡◌, sym, ap, ◌∙◌}
use Prim.Native.Nat.{ℕ, ◌^◌, ◌≤◌, ◌<◌}
use native.Mathlib.Omega.{arith}
use Rattle.checks.specs.Check.{Verdict}
use Rattle.std.specs.Prelude.{Ok}
use Rattle.state.specs.declared.Link.{Link}
use Rattle.state.specs.Queue.{held_of}
use Rattle.calls.specs.declared.AfterArrival.{AfterArrival}
use Rattle.calls.specs.Arrival.{Arrives}
use Rattle.calls.specs.Run.{Made, Run}
use Rattle.calls.proofs.Arrivals.{arrival_one_answer}
use Rattle.wait.specs.Wait.{followed, bound_of}
use Rattle.wait.proofs.BoundedWait.{sound, bounded_wait, bound_small}
use Rattle.promised.specs.declared.Promised.{Promised}
use Rattle.promised.specs.Promise.{Promises}
use Rattle.promised.proofs.Kept.{leaf, fits, promise_passes}
use Rattle.offered.specs.declared.Offered.{Offered}
use Rattle.offered.specs.Offer.{of_length, wait_by, offered_by, Offers}

-- any two answers are equal
pub offer_one_answer : (l : Link) (i n : ℕ) (a b : Offered) → Offers l i n a → Offers l i n b → a ≡ b
offer_one_answer l i n a b x y =
    x.answer
    ∙ ap (λ (r : AfterArrival). offered_by r.answer l i)
    (arrival_one_answer l i (of_length n) x.after y.after x.arrives y.arrives)
    ∙ sym y.answer

-- of an arrival that is accepted: the promise for the bytes that it answers is its bound
pub promise_is_bound : (l : Link) (i n : ℕ) (a : AfterArrival) → Arrives l i (of_length n) a → a.answer.verdict ≡ Ok tt → (r : Promised)
    → Promises l.tree i a.answer.bytes.0 r → r.bytes.0 ≡ bound_of l i a.answer.bytes.0
promise_is_bound l i n a arrives accepted r x =
    let p = of_length n in
    let rules = (sound l i p a arrives accepted).state.fits.tree in
    ap (λ (q : Promised). q.bytes.0)
    (promise_passes l.tree i a.answer.bytes.0 r rules (leaf l i p a arrives accepted) (fits l i p a arrives accepted) x)

-- the packet that then comes, and is accepted, has what was offered: D as it is answered, and no more bytes are sent until it has gone; and
-- both numbers fit 64 bits
module _ (l : Link) (i n : ℕ) (r : Offered) (x : Offers l i n r) (passes : r.verdict ≡ Ok tt) where
  accepted : x.after.answer.verdict ≡ Ok tt
  accepted = ap (λ (o : Offered). o.verdict) (sym x.answer) ∙ passes

  wait_is : r.wait.0 ≡ bound_of l i x.after.answer.bytes.0
  wait_is =
      ap (λ (o : Offered). o.wait.0) x.answer
      ∙ ap (λ (v : Verdict). wait_by v l i x.after.answer.bytes.0) accepted

  pub offer_kept : (run : List Made) → Run x.after.link run
      → (r.bytes ≡ x.after.answer.bytes) × ((followed i (held_of l i) run).sent ≤ r.wait.0)
  offer_kept run is = (
    ap (λ (o : Offered). o.bytes) x.answer,
    omega (arith, wait_is, bounded_wait l i (of_length n) x.after x.arrives accepted run is),
  )

  pub offer_small : r.wait.0 < 2 ^ 64
  offer_small = omega (arith, wait_is, bound_small l i (of_length n) x.after x.arrives accepted)

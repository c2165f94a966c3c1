-- What is promised is kept (R241), and one answer is allowed. Demand 3.
use mathlib.Core.Bool.{Bool, true, not}
use mathlib.Core.List.{List}
use mathlib.Core.Path.{◌≡◌, refl, sym, ap, ◌∙◌}
use Prim.Native.Nat.{ℕ, ◌≤◌, ◌<◌}
use native.Mathlib.Nat.{mul-le-mul_right}
use native.Mathlib.Omega.{arith}
use lib.ListN.{get_or}
use borrow.Author.Tests.{le-ltb}
use Rattle.std.specs.Prelude.{Ok}
use Rattle.checks.specs.Check.{first_broken, Exactly, Verdict}
use Rattle.checks.proofs.Laws.{pass_over, none_broken, exactly_unique}
use Rattle.units.specs.Cost.{cost_of}
use Rattle.units.proofs.Laws.{cost_grows}
use Rattle.tree.specs.declared.Tree.{Tree}
use Rattle.tree.specs.Class.{longest_of, is_leaf}
use Rattle.tree.specs.Rules.{PlanRules}
use Rattle.state.specs.declared.Link.{Link}
use Rattle.state.specs.declared.Packet.{Packet}
use Rattle.state.specs.Queue.{held_of, no_packet, bytes_in}
use Rattle.state.specs.State.{State, meaning, queue_at}
use Rattle.state.proofs.Bytes.{bytes_most}
use Rattle.state.proofs.Meaning.{meaning_queue}
use Rattle.sound.specs.Sound.{Sound}
use Rattle.calls.specs.declared.AfterArrival.{AfterArrival}
use Rattle.calls.specs.Arrival.{Arrives}
use Rattle.calls.specs.Run.{Made, Run}
use Rattle.calls.proofs.Arrivals.{taken}
use Rattle.wait.specs.Wait.{followed}
use Rattle.wait.proofs.BoundedWait.{sound, passes, low, means, answered_bytes, bounded_wait}
use Rattle.promised.specs.declared.Promised.{Promised}
use Rattle.promised.specs.Promise.{most_held, wait_checks, promised_by, Promises}

-- any two answers that the contract allows are equal
pub promise_one_answer : (t : Tree) (class d : ℕ) (r s : Promised) → Promises t class d r → Promises t class d s → r ≡ s
promise_one_answer t class d r s x y =
    x.answer
    ∙ ap (λ (b : Bool). promised_by (first_broken (wait_checks b t class d)) t class d) (exactly_unique x.exactly y.exactly)
    ∙ sym y.answer

-- an answer by its verdict
pub promise_of : (t : Tree) (class d : ℕ) (obeys : Bool) (v : Verdict) (r : Promised) → Exactly obeys (PlanRules t)
    → first_broken (wait_checks obeys t class d) ≡ v → r ≡ promised_by v t class d → Promises t class d r
promise_of t class d obeys v r x e h = record {
  obeys = obeys;
  exactly = x;
  answer = h ∙ ap (λ (u : Verdict). promised_by u t class d) (sym e);
}

-- nothing is refused of a leaf of the plan and a D that its places can hold
pub checks_pass : (t : Tree) (class d : ℕ) (obeys : Bool) → obeys ≡ true → is_leaf t class ≡ true → d ≤ most_held t class
    → first_broken (wait_checks obeys t class d) ≡ Ok tt
checks_pass t class d obeys o leaf few =
    pass_over _ _ (ap not o) ∙ pass_over _ _ (ap not leaf) ∙ pass_over _ _ (le-ltb (most_held t class) d few) ∙ none_broken

pub promise_passes : (t : Tree) (class d : ℕ) (r : Promised) → PlanRules t → is_leaf t class ≡ true → d ≤ most_held t class
    → Promises t class d r → r ≡ promised_by (Ok tt) t class d
promise_passes t class d r rules leaf few x =
    x.answer
    ∙ ap (λ (v : Verdict). promised_by v t class d) (checks_pass t class d x.obeys (x.exactly.complete rules) leaf few)

-- a leaf of a sound state holds no more than 32 of its longest packets
pub held_most : (s : State) (i : ℕ) → Sound s → i < 64 → is_leaf s.tree i ≡ true → bytes_in (queue_at s i) ≤ most_held s.tree i
held_most s i sound u leaf =
    let each =
    bytes_most (queue_at s i) (cost_of (longest_of s.tree i))
    (λ j v. cost_grows (get_or (queue_at s i) j no_packet).length (longest_of s.tree i) ((sound.holds i u).range leaf j v).high)
    in
    omega (arith, each, mul-le-mul_right (cost_of (longest_of s.tree i)) ((sound.holds i u).few leaf))

-- an arrival of packet p to class i with the answer a, that is accepted
module _ (l : Link) (i : ℕ) (p : Packet) (a : AfterArrival) (arrives : Arrives l i p a) (accepted : a.answer.verdict ≡ Ok tt) where
  pub leaf : is_leaf l.tree i ≡ true
  leaf = (taken true (meaning l) i p (passes l i p a arrives accepted)).leaf

  -- the bytes that it answered are what its places can hold
  pub fits : a.answer.bytes.0 ≤ most_held l.tree i
  fits =
      let m = means l i p a arrives accepted in
      let u = low l i p a arrives accepted in
      let after = (arrives.keeps (sound l i p a arrives accepted)).state in
      let same : (meaning a.link).tree ≡ l.tree = ap (λ (s : State). s.tree) m in
      rw (answered_bytes l i p a arrives accepted, ← meaning_queue a.link i u, ← same)
      (held_most (meaning a.link) i after u (rw same leaf))

  -- what is promised of its wait is not refused, and the whole link sends no more bytes until it has gone, in whatever order later arrivals
  -- and sends come (R241)
  pub promise_kept : (r : Promised) → Promises l.tree i a.answer.bytes.0 r → (run : List Made) → Run a.link run
      → (r.verdict ≡ Ok tt) × ((followed i (held_of l i) run).sent ≤ r.bytes.0)
  promise_kept r x run is =
      let rules = (sound l i p a arrives accepted).state.fits.tree in
      let e = promise_passes l.tree i a.answer.bytes.0 r rules leaf fits x in
      rw e (refl, bounded_wait l i p a arrives accepted run is)

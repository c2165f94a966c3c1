-- Any run of the library while a packet waits: what is sent stays within the number that falls, and so do the sends; what goes as that
-- packet is that packet. Demand 3.
use mathlib.Core.Bool.{Bool, true, false}
use mathlib.Core.List.{List, [], ◌∷◌}
use mathlib.Core.Path.{◌≡◌, refl, sym, ap, ap₂, subst, ◌∙◌}
use Prim.Native.Nat.{ℕ, zero, suc, ◌+◌, ◌≤◌, ◌<◌, zero-le}
use native.Mathlib.Nat.{add-zero}
use native.Mathlib.Omega.{arith}
use lib.Dec.{eqb}
use lib.ListN.{length}
use borrow.Author.Tests.{eqb-true, eqb-false}
use Rattle.checks.specs.Check.{passed}
use Rattle.checks.proofs.Laws.{not_true_and_false}
use Rattle.units.specs.Cost.{cost_of}
use Rattle.state.specs.declared.Link.{Link}
use Rattle.state.specs.declared.Waiting.{Waiting}
use Rattle.state.specs.Mark.{unmarked, wrapped, since}
use Rattle.state.specs.State.{State, meaning}
use Rattle.sound.specs.Sound.{SoundLink}
use Rattle.rules.specs.Sending.{Trace, trace_of}
use Rattle.rules.specs.After.{link_after}
use Rattle.rules.proofs.Traces.{after_means}
use Rattle.calls.specs.declared.Departure.{Departure}
use Rattle.calls.specs.declared.AfterSend.{AfterSend}
use Rattle.calls.specs.Arrival.{arrival_leaves}
use Rattle.calls.specs.Send.{goes, send_leaves, Sends}
use Rattle.calls.specs.Run.{arrival, send, Made, made, Run}
use Rattle.calls.proofs.Runs.{sent_is, sent_means}
use Rattle.wait.specs.Wait.{Followed, more, one_send, followed, sends_in}
use Rattle.wait.proofs.Credit.{Holds, falling, falling_some}
use Rattle.wait.proofs.InOrder.{packet_behind, send_in_order}
use Rattle.wait.proofs.OneCall.{send_falls, holds_waits, any_arrival}

-- what was sent is no more than a number; as long as the packet waits there were fewer sends than that; where it has gone it was this one,
-- and what was answered is the running total then, less its mark
pub record GoneWithin (f : Followed) (sends number total : ℕ) (p : Waiting) : Type 0 where
  pub sent : f.sent ≤ number
  pub waits : f.gone ≡ false → sends < number
  pub this : f.gone ≡ true → f.packet ≡ unmarked p
  pub waited : f.gone ≡ true → f.waited ≡ since (wrapped (total + f.sent)) p.mark

-- a total that wraps twice
wraps_once : (a c b : ℕ) → wrapped (wrapped (a + c) + b) ≡ wrapped (a + (c + b))
wraps_once a c b = omega arith

-- one send more
more_within : (c n less number total after : ℕ) (f : Followed) (p q : Waiting) → 1 ≤ c → less + c ≤ number
    → after ≡ wrapped (total + c) → p ≡ q → GoneWithin f n less after p → GoneWithin (more c f) (suc n) number total q
more_within c n less number total after f p q some fall grows same w = record {
  sent = omega (arith, fall, w.sent);
  waits = λ g. omega (arith, some, fall, w.waits g);
  this = λ g. w.this g ∙ ap unmarked same;
  waited = λ g.
      w.waited g
      ∙ ap₂ since (ap (λ (x : ℕ). wrapped (x + f.sent)) grows ∙ wraps_once total c f.sent) (ap (λ (x : Waiting). x.mark) same);
}

-- the calls keep a packet that waits in a state within the number that falls there, wherever it waits
abbrev Keeps : List Made → ℕ → State → Type 0
Keeps ms i s = (k : ℕ) → Holds s i k → GoneWithin (followed i k ms) (sends_in ms) (falling s i k) s.totals.charged (packet_behind s i k)

-- no call
none_keeps : (i : ℕ) (s : State) → Keeps [] i s
unfolding followed sends_in
none_keeps i s k h = record {
  sent = zero-le;
  waits = λ g. falling_some s i k h;
  this = λ g. absurd (not_true_and_false g refl);
  waited = λ g. absurd (not_true_and_false g refl);
}

-- a send first: of another class, of a packet before the one that is followed, or of that one
module _
    (l : Link) (answer : Departure) (after : Link) (rest : List Made) (i : ℕ)
    (sound : SoundLink l) (x : Sends l (send_leaves answer after)) where
  abbrev before : State
  before = meaning l

  abbrev trace : Trace
  trace = trace_of (meaning l)

  abbrev gives : Departure
  gives = goes trace.class trace.packet (length trace.turns) (link_after l trace).totals.charged

  abbrev cost : ℕ
  cost = cost_of trace.packet.length

  goes_by : (k : ℕ) → Holds before i k → (own : Bool) → eqb trace.class i ≡ own
      → followed i k (made send answer after ∷ rest) ≡ one_send true own gives k (λ m. followed i m rest)
  unfolding followed
  goes_by k h own e =
      ap
      (λ (d : AfterSend). one_send (passed d.answer.verdict) (eqb d.answer.class i) d.answer k
      (λ m. followed i m rest))
      (sent_is l (send_leaves answer after) sound x (holds_waits before i k h))
      ∙ ap (λ (b : Bool). one_send true b gives k (λ m. followed i m rest)) e

  send_keeps : Keeps rest i (meaning after) → Keeps (made send answer after ∷ rest) i before
  unfolding sends_in
  send_keeps later k h =
      let means = sent_means l (send_leaves answer after) sound x (holds_waits before i k h) in
      go k h (subst (Keeps rest i) means later) (eqb trace.class i) refl
    where
      go : (k : ℕ) → Holds before i k → Keeps rest i trace.state → (b : Bool) → eqb trace.class i ≡ b
          → GoneWithin (followed i k (made send answer after ∷ rest)) (suc (sends_in rest)) (falling before i k) before.totals.charged
          (packet_behind before i k)
      go k h ih false e =
          let f = send_falls before i k h in
          let ne : i ≡ trace.class → ⊥ = λ z. eqb-false trace.class i e (sym z) in
          subst (λ (r : Followed). GoneWithin r (suc (sends_in rest)) (falling before i k) before.totals.charged
          (packet_behind before i k)) (sym (goes_by k h false e))
          (more_within cost (sends_in rest) (falling trace.state i k) (falling before i k) before.totals.charged
          trace.state.totals.charged
          (followed i k rest) _ _
          f.costs (f.other_falls ne) (send_in_order before i k h).charged ((send_in_order before i k h).other i k ne)
          (ih k (f.other_holds ne)))
      go (suc j) h ih true e =
          let f = send_falls before i (suc j) h in
          let is : i ≡ trace.class = sym (eqb-true trace.class i e) in
          subst (λ (r : Followed). GoneWithin r (suc (sends_in rest)) (falling before i (suc j)) before.totals.charged
          (packet_behind before i (suc j)))
          (sym (goes_by (suc j) h true e))
          (more_within cost (sends_in rest) (falling trace.state i j) (falling before i (suc j)) before.totals.charged
          trace.state.totals.charged
          (followed i j rest) _ _
          f.costs (f.own_falls j is refl) (send_in_order before i (suc j) h).charged
          (subst (λ (n : ℕ). packet_behind trace.state n j ≡ packet_behind before n (suc j)) (sym is)
          ((send_in_order before i (suc j) h).own j))
          (ih j (f.own_holds j is refl)))
      go zero h ih true e =
          let f = send_falls before i 0 h in
          let is : i ≡ trace.class = sym (eqb-true trace.class i e) in
          let own : i ≡ trace.class → trace.packet ≡ packet_behind before i 0 =
          λ is. (send_in_order before i 0 h).packet ∙ ap (λ (n : ℕ). packet_behind before n 0) (sym is)
          in
          subst (λ (r : Followed). GoneWithin r (suc (sends_in rest)) (falling before i 0) before.totals.charged
          (packet_behind before i 0)) (sym (goes_by 0 h true e))
          (record {
            sent = omega (arith, f.itself is);
            waits = λ g. absurd (not_true_and_false refl g);
            this = λ g. ap unmarked (own is);
            waited =
                λ g.
                ap₂ since
                (ap (λ (s : State). s.totals.charged) (after_means l x.shape sound (holds_waits before i 0 h))
                ∙ (send_in_order before i 0 h).charged
                ∙ ap (λ (n : ℕ). wrapped (before.totals.charged + n)) (sym (add-zero cost)))
                (ap (λ (p : Waiting). p.mark) (own is));
          })

-- through any run the packet's wait stays within the number that falls
pub run_keeps : (ms : List Made) (l : Link) (i : ℕ) → SoundLink l → Run l ms → Keeps ms i (meaning l)
unfolding Run followed sends_in
run_keeps [] l i sound run k h = none_keeps i (meaning l) k h
run_keeps (made (arrival j p) answer after ∷ rest) l i sound run k h =
    let a = any_arrival l i k j p (arrival_leaves answer after) sound run.0 h in
    let later = run_keeps rest after i (run.0.keeps sound) run.1 k a.holds in
    subst (GoneWithin (followed i k rest) (sends_in rest) (falling (meaning l) i k) l.totals.charged) a.packet
    (subst (λ (n : ℕ). GoneWithin (followed i k rest) (sends_in rest) (falling (meaning l) i k) n (packet_behind (meaning after) i k))
    a.total
    (subst (λ (n : ℕ). GoneWithin (followed i k rest) (sends_in rest) n after.totals.charged (packet_behind (meaning after) i k))
    a.same later))
run_keeps (made send answer after ∷ rest) l i sound run k h =
    send_keeps l answer after rest i sound run.0 (run_keeps rest after i (run.0.keeps sound) run.1) k h

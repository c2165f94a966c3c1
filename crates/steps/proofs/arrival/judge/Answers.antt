-- `arrival::judge` meets its contract: 13 and 14 in this order.
use mathlib.Core.Bool.{Bool, ◌||◌}
use mathlib.Core.Path.{◌≡◌, refl, sym, ◌∙◌}
use Prim.Native.Nat.{ℕ}
use lib.Dec.{leb, ltb}
use lib.ListN.{length}
use borrow.Author.Tests.{le-leb, lt-leb}
use native.Mathlib.Omega.{arith}
use Rattle.checks.proofs.Laws.{not_both}
use Rattle.tree.specs.Class.{longest_of}
use Rattle.state.specs.declared.Packet.{Packet}
use Rattle.state.specs.State.{State, queue_at}
use Rattle.calls.specs.Arrival.{bad_length, full}
use Rattle.calls.proofs.Arrivals.{length_number, full_number, no_number}
use Rattle.steps.proofs.arrival.judge.Goals as goal

-- what the numbers say is what the state says
ranged : (s : State) (i n longest : ℕ) (p : Packet) (b : Bool) → p.length ≡ n → longest_of s.tree i ≡ longest
    → b ≡ (ltb n 1 || ltb longest n) → bad_length s i p ≡ b
unfolding bad_length
ranged s i n longest p b x y e = rw (x, y, e) refl

filled : (s : State) (i held : ℕ) → length (queue_at s i) ≡ held → full s i ≡ leb 32 held
unfolding full
filled s i held e = rw e refl

pub returns-then-out_of_range : goal.returns-then-out_of_range
returns-then-out_of_range c =
    let a = c.args in
    record {
      verdict = λ s p leaf x y z.
          sym (length_number s a.class p leaf
          (ranged s a.class a.length a.longest p c.out_of_range.result x y c.out_of_range.ensures ∙ c.if-out_of_range.true));
      room = λ e. absurd (not_both e refl);
    }

pub returns-then-from-ge-PLACES : goal.returns-then-from-ge-PLACES
returns-then-from-ge-PLACES c =
    let a = c.args in
    record {
      verdict = λ s p leaf x y z.
          sym (full_number s a.class p leaf
          (ranged s a.class a.length a.longest p c.out_of_range.result x y c.out_of_range.ensures ∙ c.if-out_of_range.false)
          (filled s a.class a.held z ∙ le-leb 32 a.held (omega (arith, c.from.ensures, c.if-from-ge-PLACES.true))));
      room = λ e. absurd (not_both e refl);
    }

pub returns : goal.returns
returns c =
    let a = c.args in
    record {
      verdict = λ s p leaf x y z.
          sym (no_number s a.class p leaf
          (ranged s a.class a.length a.longest p c.out_of_range.result x y c.out_of_range.ensures ∙ c.if-out_of_range.false)
          (filled s a.class a.held z ∙ lt-leb 32 a.held (omega (arith, c.from.ensures, c.if-from-ge-PLACES.false))));
      room = λ e. omega (arith, c.from.ensures, c.if-from-ge-PLACES.false);
    }

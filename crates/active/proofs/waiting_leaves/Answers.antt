-- `active::waiting_leaves` meets its contract.
use mathlib.Core.Bool.{Bool, true, false, cond, ◌&&◌, and_comm}
use mathlib.Core.Path.{◌≡◌, refl, ap, ◌∙◌}
use Prim.Native.Nat.{ℕ, ◌+◌, ◌<◌}
use native.Mathlib.Decide.{ℕ_discrete, dec_lt}
use native.Mathlib.Omega.{arith}
use lib.Dec.{leb, ltb}
use lib.ListN.{get_or}
use borrow.Author.Tests.{lt-ltb, le-ltb}
use Rattle.sets.specs.Set.{has, with}
use Rattle.sets.proofs.Laws.{has_empty, has_with_same, has_with_other}
use Rattle.active.proofs.waiting_leaves.Invariants.{Filled}
use Rattle.active.proofs.waiting_leaves.Goals as goal

filled_on : (f : ℕ → Bool) (set i : ℕ) → i < 64 → Filled f set i → Filled f (cond (f i) (with set i) set) (i + 1)
filled_on f set i u is k v = go (ℕ_discrete k i) (f i) refl
  where
    go : Dec (k ≡ i) → (b : Bool) → f i ≡ b → has (cond b (with set i) set) k ≡ (ltb k (i + 1) && f k)
    go (yes e) true on = rw (e, lt-ltb i (i + 1) (omega arith), on) (has_with_same set i)
    go (yes e) false off = rw (e, lt-ltb i (i + 1) (omega arith), off) (is i u ∙ rw (le-ltb i i (omega arith)) refl)
    go (no ne) b e = other b
      where
        same : has set k ≡ (ltb k (i + 1) && f k)
        same = is k v ∙ at (dec_lt k i)
          where
            at : Dec (k < i) → (ltb k i && f k) ≡ (ltb k (i + 1) && f k)
            at (yes l) = rw (lt-ltb k i l, lt-ltb k (i + 1) (omega arith)) refl
            at (no l) = rw (le-ltb k i (omega arith), le-ltb k (i + 1) (omega arith)) refl

        other : (b : Bool) → has (cond b (with set i) set) k ≡ (ltb k (i + 1) && f k)
        other true = has_with_other set i k ne ∙ same
        other false = same

pub loop-i-init : goal.loop-i-init
loop-i-init c = (omega arith, λ k u. has_empty k ∙ rw (le-ltb k 0 (omega arith)) refl)

pub loop-i-preserved : goal.loop-i-preserved
loop-i-preserved c =
    let u : c.loop-i.i < 64 = omega arith in
    (omega arith, rw c.with_if-waiting.ensures (filled_on _ c.loop-i.waiting c.loop-i.i u c.loop-i.invariant.1))

pub returns : goal.returns
returns c =
    let a = c.args in
    λ i u.
    let all : has c.loop-i.waiting i ≡ leb 1 (get_or a.held.now i 0) =
    c.loop-i.invariant.1 i u ∙ rw (lt-ltb i c.loop-i.i (omega arith)) refl
    in
    c.both.ensures.both i ∙ ap (λ (b : Bool). b && has a.leaves i) all
    ∙ and_comm (leb 1 (get_or a.held.now i 0)) (has a.leaves i)

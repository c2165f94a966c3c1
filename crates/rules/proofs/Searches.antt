-- What a search over numbers passes and where it ends. Demand 2.
use mathlib.Core.Bool.{Bool, true, false}
use mathlib.Core.Path.{◌≡◌, refl}
use Prim.Native.Nat.{ℕ, zero, suc, ◌+◌, ◌≤◌, ◌<◌}
use native.Mathlib.Decide.{ℕ_discrete}
use native.Mathlib.Omega.{arith}
use Rattle.rules.specs.Sending.{first_from}

-- it ends among the n numbers from p on, or after them
pub first_range : (f : ℕ → Bool) (n p : ℕ) → (p ≤ first_from f n p) × (first_from f n p ≤ p + n)
unfolding first_from
first_range f zero p = (omega arith, omega arith)
first_range f (suc n) p = go (f p) (first_range f n (suc p))
  where
    go : (b : Bool) → (suc p ≤ first_from f n (suc p)) × (first_from f n (suc p) ≤ suc p + n)
        → (p ≤ elim b [ true ↦ p | false ↦ first_from f n (suc p) ]) × (elim b [ true ↦ p | false ↦ first_from f n (suc p) ] ≤ p + suc n)
    go true ih = (omega arith, omega arith)
    go false ih = (omega (arith, ih.0), omega (arith, ih.1))

-- f holds of none that it passed
pub first_least : (f : ℕ → Bool) (n p k : ℕ) → p ≤ k → k < first_from f n p → f k ≡ false
unfolding first_from
first_least f zero p k l u = absurd (omega arith)
first_least f (suc n) p k l u = go (f p) refl u (λ h v. first_least f n (suc p) k h v)
  where
    go : (b : Bool) → f p ≡ b → k < elim b [ true ↦ p | false ↦ first_from f n (suc p) ]
        → (suc p ≤ k → k < first_from f n (suc p) → f k ≡ false) → f k ≡ false
    go true e v ih = absurd (omega arith)
    go false e v ih = at (ℕ_discrete k p)
      where
        at : Dec (k ≡ p) → f k ≡ false
        at (yes q) = rw q e
        at (no q) = ih (omega arith) v

-- and f holds where it ends before them all are passed
pub first_holds : (f : ℕ → Bool) (n p : ℕ) → first_from f n p < p + n → f (first_from f n p) ≡ true
unfolding first_from
first_holds f zero p u = absurd (omega arith)
first_holds f (suc n) p u = go (f p) refl u (λ v. first_holds f n (suc p) v)
  where
    go : (b : Bool) → f p ≡ b → elim b [ true ↦ p | false ↦ first_from f n (suc p) ] < p + suc n
        → (first_from f n (suc p) < suc p + n → f (first_from f n (suc p)) ≡ true)
        → f (elim b [ true ↦ p | false ↦ first_from f n (suc p) ]) ≡ true
    go true e v ih = e
    go false e v ih = ih (omega arith)

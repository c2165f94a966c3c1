-- Sums of what each class adds to its parent, all made in one pass from the highest class down. Demands 1 to 3.
use mathlib.Core.List.{List}
use mathlib.Core.Path.{◌≡◌, refl, sym, ap, subst, ◌∙◌}
use Prim.Native.Nat.{ℕ, ◌+◌, ◌-◌, ◌≤◌, ◌<◌}
use native.Mathlib.Decide.{ℕ_discrete}
use native.Mathlib.Omega.{arith}
use lib.ListN.{length, get_or, set, replicate, length-set, length-replicate, get_or-replicate}
use lib.Seq.{get_or-set_same, get_or-set_other}
use Rattle.units.specs.declared.Weight.{Weight}
use Rattle.tree.specs.Class.{no_weight}
use Rattle.tree.specs.Sum.{sum_to}
use Rattle.tree.proofs.Sums.{sum_none, sum_above_lem}

-- what holds of the classes after class i, and of class i
pub after_more : (P : ℕ → Type 0) (n i : ℕ) → ((k : ℕ) → i < k → k ≤ n → P k) → P i → (k : ℕ) → i - 1 < k → k ≤ n → P k
after_more P n i all own k l u = go (ℕ_discrete i k)
  where
    go : Dec (i ≡ k) → P k
    go (yes e) = subst P e own
    go (no e) = all k (omega arith) u

-- the sums of m numbers, in a table whose entries have a value, hold what the classes above class k, of n classes, add to them; class i
-- adds
-- f p i to number p
pub record Added {A : Type 0} (none : A) (value : A → ℕ) (n m : ℕ) (f : ℕ → ℕ → ℕ) (sums : List A) (k : ℕ) : Type 0 where
  pub many : length sums ≡ m
  pub at : (p : ℕ) → p < m → value (get_or sums p none) ≡ sum_to (f p) n - sum_to (f p) k

module _ {A : Type 0} (none : A) (value : A → ℕ) (n m : ℕ) (f : ℕ → ℕ → ℕ) where
  -- at first nothing
  pub added_start : value none ≡ 0 → Added none value n m f (replicate m none) n
  added_start z = record {
    many = length-replicate m none;
    at = λ p u. ap value (get_or-replicate m p none none u) ∙ z ∙ omega arith;
  }

  -- class i adds itself to number q
  pub added_more : (sums : List A) (i q w : ℕ) (x : A) → Added none value n m f sums i → 1 ≤ i → i ≤ n → q < m
      → f q i ≡ w → ((p : ℕ) → (q ≡ p → ⊥) → f p i ≡ 0) → value x ≡ value (get_or sums q none) + w
      → Added none value n m f (set sums q x) (i - 1)
  added_more sums i q w x s l u low own other e = record {
    many = length-set sums q x ∙ s.many;
    at = λ p v. go p v (ℕ_discrete p q);
  }
    where
      go : (p : ℕ) → p < m → Dec (p ≡ q) → value (get_or (set sums q x) p none) ≡ sum_to (f p) n - sum_to (f p) (i - 1)
      go p v (yes z) =
          let same = ap value (get_or-set_same sums q x none (omega (arith, s.many))) in
          rw z (omega (arith, same, e, own, s.at q low, sum_above_lem (f q) n i l u))
      go p v (no z) =
          let stays = ap value (get_or-set_other sums q p x none z) in
          omega (arith, stays, other p (λ d. z (sym d)), s.at p v, sum_above_lem (f p) n i l u)

  -- at last all of it
  pub added_end : (sums : List A) (p : ℕ) → Added none value n m f sums 0 → p < m → value (get_or sums p none) ≡ sum_to (f p) n
  added_end sums p s u = omega (arith, s.at p u, sum_none (f p))

-- sums of weights
abbrev weight_in : Weight → ℕ
weight_in w = w.0

abbrev pub SumsAbove : ℕ → ℕ → (ℕ → ℕ → ℕ) → List Weight → ℕ → Type 0
SumsAbove = Added no_weight weight_in

module _ (n m : ℕ) (f : ℕ → ℕ → ℕ) where
  pub sums_start : SumsAbove n m f (replicate m no_weight) n
  sums_start = added_start no_weight weight_in n m f refl

  pub sums_more : (sums : List Weight) (i q w : ℕ) (x : Weight) → SumsAbove n m f sums i → 1 ≤ i → i ≤ n → q < m
      → f q i ≡ w → ((p : ℕ) → (q ≡ p → ⊥) → f p i ≡ 0) → x.0 ≡ (get_or sums q no_weight).0 + w → SumsAbove n m f (set sums q x) (i - 1)
  sums_more = added_more no_weight weight_in n m f

  pub sums_end : (sums : List Weight) (p : ℕ) → SumsAbove n m f sums 0 → p < m → (get_or sums p no_weight).0 ≡ sum_to (f p) n
  sums_end = added_end no_weight weight_in n m f

-- Laws of the classes at or below a class: a step up, the root, the class itself, no higher class. Demand 2.
use mathlib.Core.Bool.{Bool, true, false, ◌||◌}
use mathlib.Core.Path.{◌≡◌, refl, sym, ap, ◌∙◌}
use Prim.Native.Nat.{ℕ, zero, suc, ◌≤◌, ◌<◌}
use native.Mathlib.Decide.{ℕ_discrete}
use native.Mathlib.Omega.{arith}
use lib.Dec.{eqb}
use borrow.Author.Tests.{eq-eqb, ne_eqb, eqb-true}
use Rattle.tree.specs.declared.Tree.{Tree}
use Rattle.tree.specs.Class.{parent_of}
use Rattle.tree.specs.Below.{climbs, at_or_below}
use Rattle.tree.specs.Rules.{PlanRules}
use Rattle.tree.proofs.Rules.{parent_below}

module _ (t : Tree) (rules : PlanRules t) where
  climb_root : (n i : ℕ) → climbs n t i 0 ≡ eqb i 0
  unfolding climbs
  climb_root zero i = refl
  climb_root (suc n) i = refl

  climb_suc : (n i j : ℕ) → climbs (suc n) t i (suc j) ≡ (eqb i (suc j) || climbs n t i (parent_of t (suc j)))
  unfolding climbs
  climb_suc n i j = refl

  climb_stable : (n m i j : ℕ) → j ≤ n → j ≤ m → j < 64 → climbs n t i j ≡ climbs m t i j
  climb_stable zero m i j a b u =
      let e : j ≡ 0 = omega arith in
      rw e (climb_root zero i ∙ sym (climb_root m i))
  climb_stable (suc n) m i j a b u = go j m a b u (λ k l x y z. climb_stable n k i l x y z)
    where
      go : (j m : ℕ) → j ≤ suc n → j ≤ m → j < 64 → ((k l : ℕ) → l ≤ n → l ≤ k → l < 64 → climbs n t i l ≡ climbs k t i l)
          → climbs (suc n) t i j ≡ climbs m t i j
      go zero m a b u ih = climb_root (suc n) i ∙ sym (climb_root m i)
      go (suc j) zero a b u ih = absurd (omega arith)
      go (suc j) (suc m) a b u ih =
          let low = parent_below t (suc j) rules (omega arith) u in
          climb_suc n i j
          ∙ ap (λ (x : Bool). eqb i (suc j) || x) (ih m (parent_of t (suc j)) (omega arith) (omega arith) (omega arith))
          ∙ sym (climb_suc m i j)

  pub below_step : (i j : ℕ) → 1 ≤ j → j < 64 → at_or_below t i j ≡ (eqb i j || at_or_below t i (parent_of t j))
  unfolding at_or_below
  below_step i zero l u = absurd (omega arith)
  below_step i (suc j) l u =
      let low = parent_below t (suc j) rules l u in
      climb_suc 62 i j ∙ ap (λ (x : Bool). eqb i (suc j) || x)
      (climb_stable 62 63 i (parent_of t (suc j)) (omega arith) (omega arith) (omega arith))

  pub below_root : (i : ℕ) → at_or_below t i 0 ≡ eqb i 0
  unfolding at_or_below
  below_root i = climb_root 63 i

  pub below_self : (i : ℕ) → i < 64 → at_or_below t i i ≡ true
  below_self zero u = below_root 0 ∙ eq-eqb 0 0 refl
  below_self (suc i) u = below_step (suc i) (suc i) (omega arith) u ∙ rw (eq-eqb (suc i) (suc i) refl)

  -- a class is at or below no higher one
  pub below_least : (i j : ℕ) → j < 64 → at_or_below t i j ≡ true → i ≤ j
  below_least i j u h = climb j j (omega arith) u h
    where
      climb : (n j : ℕ) → j ≤ n → j < 64 → at_or_below t i j ≡ true → i ≤ j
      climb zero j a u h =
          let z : j ≡ 0 = omega arith in
          omega (arith, eqb-true i 0 (sym (below_root i) ∙ (rw z at h)))
      climb (suc n) j a u h = go (ℕ_discrete j 0) (eqb i j) refl (λ k x y z. climb n k x y z)
        where
          go : Dec (j ≡ 0) → (b : Bool) → eqb i j ≡ b → ((k : ℕ) → k ≤ n → k < 64 → at_or_below t i k ≡ true → i ≤ k) → i ≤ j
          go (yes z) b e ih = omega (arith, eqb-true i 0 (sym (below_root i) ∙ (rw z at h)))
          go (no z) true e ih = omega (arith, eqb-true i j e)
          go (no z) false e ih =
              let low = parent_below t j rules (omega arith) u in
              let more : at_or_below t i (parent_of t j) ≡ true =
              sym (ap (λ (x : Bool). x || at_or_below t i (parent_of t j)) e) ∙ sym (below_step i j (omega arith) u) ∙ h
              in
              omega (arith, ih (parent_of t j) (omega arith) (omega arith) more)

  -- a class other than i is at or below it exactly when its parent is
  pub below_parent : (i j : ℕ) → 1 ≤ j → j < 64 → (i ≡ j → ⊥) → at_or_below t i j ≡ at_or_below t i (parent_of t j)
  below_parent i j l u ne = below_step i j l u ∙ ap (λ (x : Bool). x || at_or_below t i (parent_of t j)) (ne_eqb i j ne)

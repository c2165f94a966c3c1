-- The sets of children, class by class. Demand 2.
use mathlib.Core.Bool.{Bool, true, false, ◌&&◌}
use mathlib.Core.List.{List}
use mathlib.Core.Path.{◌≡◌, refl, sym, ap, ◌∙◌}
use Prim.Native.Nat.{ℕ, zero, suc, ◌+◌, ◌-◌, ◌^◌, ◌≤◌, ◌<◌}
use native.Mathlib.Decide.{dec_le, dec_lt, ℕ_discrete}
use native.Mathlib.Omega.{arith}
use lib.Dec.{eqb}
use lib.ListN.{length, length-set, length-replicate, get_or, set, replicate}
use lib.Seq.{get_or-set_same, get_or-set_other}
use borrow.Author.Tests.{eq-eqb, ne_eqb}
use Rattle.checks.proofs.Laws.{not_true_and_false}
use Rattle.sets.specs.Set.{has, with}
use Rattle.sets.proofs.Laws.{has_with_same, has_with_other, with_fits, has_empty}
use Rattle.tree.specs.declared.Tree.{Tree}
use Rattle.tree.specs.Class.{parent_of, is_class, is_child}
use Rattle.tree.proofs.Classes.{class_in_lem, class_range, class_past, root_no_class}
use Rattle.shape.specs.Shape.{Families}

-- the children among the classes before n are in their parents' sets, and no others
pub record FamiliesTo (t : Tree) (n : ℕ) (out : List ℕ) : Type 0 where
  pub long : length out ≡ 64
  pub fits : (p : ℕ) → p < 64 → get_or out p 0 < 2 ^ 64
  pub child : (p i : ℕ) → p < 64 → i < n → 1 ≤ i → has (get_or out p 0) i ≡ is_child t p i
  pub none : (p i : ℕ) → p < 64 → n ≤ i → has (get_or out p 0) i ≡ false
  pub root : (p : ℕ) → p < 64 → has (get_or out p 0) 0 ≡ false

-- of a list of zeros each is 0
pub zeros : (n i : ℕ) → ◌≡◌ {A = ℕ} (get_or (replicate n 0) i 0) 0
zeros zero i = refl
zeros (suc n) zero = refl
zeros (suc n) (suc i) = zeros n i

pub families_none : (t : Tree) → FamiliesTo t 1 (replicate 64 0)
families_none t = record {
  long = length-replicate {A = ℕ} 64 0;
  fits = λ p u. omega (arith, zeros 64 p);
  child = λ p i u l m. absurd (omega (arith, l, m));
  none = λ p i u l. empty p i;
  root = λ p u. empty p 0;
}
  where
    empty : (p i : ℕ) → has (get_or (replicate 64 0) p 0) i ≡ false
    empty p i = ap (λ (s : ℕ). has s i) (zeros 64 p) ∙ has_empty i

-- class n is put into the set of its parent q
module _
    (t : Tree) (n : ℕ) (out : List ℕ) (long : length out ≡ 64) (q : ℕ) (e : q ≡ parent_of t n) (v : q < 64)
    (x : ℕ) (y : x ≡ with (get_or out q 0) n) where
  own : get_or (set out q x) q 0 ≡ with (get_or out q 0) n
  own = get_or-set_same out q x 0 (omega (arith, long, v)) ∙ y

  -- what was in a set before and is not the class at hand is in it still
  kept : (p i : ℕ) → (i ≡ n → ⊥) → has (get_or (set out q x) p 0) i ≡ has (get_or out p 0) i
  kept p i ne = go (ℕ_discrete p q)
    where
      go : Dec (p ≡ q) → has (get_or (set out q x) p 0) i ≡ has (get_or out p 0) i
      go (yes z) = rw z (ap (λ (s : ℕ). has s i) own ∙ has_with_other (get_or out q 0) n i ne)
      go (no z) = ap (λ (s : ℕ). has s i) (get_or-set_other out q p x 0 z)

  -- it was in no set
  here : (p : ℕ) → has (get_or out p 0) n ≡ false → has (get_or (set out q x) p 0) n ≡ is_child t p n
  unfolding is_child
  here p none = go (ℕ_discrete p q)
    where
      go : Dec (p ≡ q) → has (get_or (set out q x) p 0) n ≡ eqb (parent_of t n) p
      go (yes z) =
          rw z (ap (λ (s : ℕ). has s n) own ∙ has_with_same (get_or out q 0) n ∙ sym (eq-eqb (parent_of t n) q (sym e)))
      go (no z) =
          ap (λ (s : ℕ). has s n) (get_or-set_other out q p x 0 z) ∙ none
          ∙ sym (ne_eqb (parent_of t n) p (λ w. z (sym w ∙ sym e)))

  fit : n < 64 → get_or out q 0 < 2 ^ 64 → (p : ℕ) → get_or out p 0 < 2 ^ 64 → get_or (set out q x) p 0 < 2 ^ 64
  fit high all p u = go (ℕ_discrete p q)
    where
      go : Dec (p ≡ q) → get_or (set out q x) p 0 < 2 ^ 64
      go (yes z) = rw (z, own) (with_fits (get_or out q 0) n all high)
      go (no z) = rw (get_or-set_other out q p x 0 z) u

-- one class more
module _
    (t : Tree) (n : ℕ) (out : List ℕ) (is : FamiliesTo t n out) (low : 1 ≤ n) (high : n < 64)
    (q : ℕ) (e : q ≡ parent_of t n) (v : q < 64) (x : ℕ) (y : x ≡ with (get_or out q 0) n) where
  pub families_on : FamiliesTo t (n + 1) (set out q x)
  families_on = record {
    long = length-set out q x ∙ is.long;
    fits = λ p u. fit t n out is.long q e v x y high (is.fits q v) p (is.fits p u);
    child = λ p i u l m. at p i u l m (ℕ_discrete i n);
    none = λ p i u l. stays p i (λ z. omega (arith, z, l)) ∙ is.none p i u (omega (arith, l));
    root = λ p u. stays p 0 (λ z. omega (arith, z, low)) ∙ is.root p u;
  }
    where
      stays : (p i : ℕ) → (i ≡ n → ⊥) → has (get_or (set out q x) p 0) i ≡ has (get_or out p 0) i
      stays = kept t n out is.long q e v x y

      at : (p i : ℕ) → p < 64 → i < n + 1 → 1 ≤ i → Dec (i ≡ n) → has (get_or (set out q x) p 0) i ≡ is_child t p i
      at p i u l m (yes z) = rw z (here t n out is.long q e v x y p (is.none p n u (omega arith)))
      at p i u l m (no z) = stays p i z ∙ is.child p i u (omega (arith, l, z)) m

pub families_all : (t : Tree) (n : ℕ) (out : List ℕ) → n ≡ t.count + 1 → FamiliesTo t n out → Families t out
families_all t n out all is = record { fits = is.fits; child = λ p i u v. at p i u (is_class t i) refl }
  where
    past : (p i : ℕ) → p < 64 → is_class t i ≡ false → Dec (1 ≤ i) → has (get_or out p 0) i ≡ false
    past p i u e (yes l) = is.none p i u (beyond (dec_lt t.count i))
      where
        beyond : Dec (t.count < i) → n ≤ i
        beyond (yes m) = omega (arith, m, all)
        beyond (no m) = absurd (not_true_and_false (class_in_lem t i l (omega (arith, m))) e)
    past p i u e (no l) = let z : i ≡ 0 = omega (arith, l) in rw z (is.root p u)

    at : (p i : ℕ) → p < 64 → (b : Bool) → is_class t i ≡ b → has (get_or out p 0) i ≡ (is_class t i && is_child t p i)
    at p i u true e =
        let r = class_range t i e in
        is.child p i u (omega (arith, r, all)) r.0 ∙ sym (ap (λ (b : Bool). b && is_child t p i) e)
    at p i u false e = past p i u e (dec_le 1 i) ∙ sym (ap (λ (b : Bool). b && is_child t p i) e)

-- ---- from the highest class down

-- the children after class n are in their parents' sets, and no others
pub record FamiliesAfter (t : Tree) (n : ℕ) (out : List ℕ) : Type 0 where
  pub long : length out ≡ 64
  pub fits : (p : ℕ) → p < 64 → get_or out p 0 < 2 ^ 64
  pub child : (p i : ℕ) → p < 64 → n < i → has (get_or out p 0) i ≡ (is_class t i && is_child t p i)
  pub none : (p i : ℕ) → p < 64 → i ≤ n → has (get_or out p 0) i ≡ false

pub after_none : (t : Tree) → FamiliesAfter t t.count (replicate 64 0)
after_none t = record {
  long = length-replicate {A = ℕ} 64 0;
  fits = λ p u. omega (arith, zeros 64 p);
  child = λ p i u l. empty p i ∙ sym (ap (λ (b : Bool). b && is_child t p i) (class_past t i l));
  none = λ p i u l. empty p i;
}
  where
    empty : (p i : ℕ) → has (get_or (replicate 64 0) p 0) i ≡ false
    empty p i = ap (λ (s : ℕ). has s i) (zeros 64 p) ∙ has_empty i

-- one class less
module _
    (t : Tree) (n : ℕ) (out : List ℕ) (is : FamiliesAfter t n out) (low : 1 ≤ n) (known : n ≤ t.count) (high : n < 64)
    (q : ℕ) (e : q ≡ parent_of t n) (v : q < 64) (x : ℕ) (y : x ≡ with (get_or out q 0) n) where
  pub after_on : FamiliesAfter t (n - 1) (set out q x)
  after_on = record {
    long = length-set out q x ∙ is.long;
    fits = λ p u. fit t n out is.long q e v x y high (is.fits q v) p (is.fits p u);
    child = λ p i u l. at p i u l (ℕ_discrete i n);
    none = λ p i u l. stays p i (λ z. omega (arith, z, l, low)) ∙ is.none p i u (omega (arith, l));
  }
    where
      stays : (p i : ℕ) → (i ≡ n → ⊥) → has (get_or (set out q x) p 0) i ≡ has (get_or out p 0) i
      stays = kept t n out is.long q e v x y

      at : (p i : ℕ) → p < 64 → n - 1 < i → Dec (i ≡ n) → has (get_or (set out q x) p 0) i ≡ (is_class t i && is_child t p i)
      at p i u l (yes z) =
          rw z (here t n out is.long q e v x y p (is.none p n u (omega arith))
          ∙ sym (ap (λ (b : Bool). b && is_child t p n) (class_in_lem t n low known)))
      at p i u l (no z) = stays p i z ∙ is.child p i u (omega (arith, l, z))

pub after_all : (t : Tree) (n : ℕ) (out : List ℕ) → n ≡ 0 → FamiliesAfter t n out → Families t out
after_all t n out all is = record { fits = is.fits; child = λ p i u v. at p i u (ℕ_discrete i 0) }
  where
    at : (p i : ℕ) → p < 64 → Dec (i ≡ 0) → has (get_or out p 0) i ≡ (is_class t i && is_child t p i)
    at p i u (yes z) =
        rw z (is.none p 0 u (omega (arith, all)) ∙ sym (ap (λ (b : Bool). b && is_child t p 0) (root_no_class t)))
    at p i u (no z) = is.child p i u (omega (arith, z, all))

-- Laws of F (R73): a smaller number fits where a larger one does; where a class's request is not met F exists, is the only one and at
-- most what the class has.
use mathlib.Core.Bool.{Bool, true, false, cond}
use mathlib.Core.List.{List}
use mathlib.Core.Path.{◌≡◌, refl}
use Prim.Native.Nat.{ℕ, zero, suc, ◌+◌, ◌*◌, ◌^◌, ◌≤◌, ◌<◌, min, zero-le}
use native.Mathlib.Decide.{dec_le}
use native.Mathlib.Nat.{mul-zero, mul-le-mul, mul-le-mul_left, mul-le-mul_right}
use native.Mathlib.Numerals.{add-one}
use native.Mathlib.Omega.{arith}
use lib.Dec.{ltb}
use borrow.Author.Tests.{eqb-true, ltb-false}
use Rattle.tree.specs.declared.Tree.{Tree}
use Rattle.tree.specs.Class.{parent_of, weight_of, is_child, of_child, children_sum}
use Rattle.tree.specs.Rules.{PlanRules}
use Rattle.tree.specs.Sum.{sum_to}
use Rattle.tree.proofs.Classes.{class_in_lem, class_range}
use Rattle.tree.proofs.Rules.{parent_lower, parent_no_leaf, weight_range}
use Rattle.tree.proofs.Sums.{sum_same, sum_within, sum_zero, sum_add}
use Rattle.allot.specs.Share.{share_at, Fits, Largest, unmet_at, unmet_weight}
use Rattle.allot.specs.Request.{entry}
use Rattle.allot.specs.Rates.{Child}
use Rattle.tree.specs.Below.{Above}
use Rattle.allot.specs.Steps.{Adding}

-- ---- sums over the children of a class

pub child_of : (t : Tree) (p i : ℕ) → 1 ≤ i → i ≤ t.count → is_child t p i ≡ true → Child t p i
unfolding is_child
child_of t p i l u e = record { class = class_in_lem t i l u; parent = eqb-true (parent_of t i) p e }

-- the parent of a class is the root or an inner class
pub parent_inner : (t : Tree) (p i : ℕ) → PlanRules t → Child t p i → Above t p
parent_inner t p i rules c = record {
  class = omega (arith, c.parent, parent_lower t i rules c.class, (class_range t i c.class).1);
  inner = rw c.parent at (parent_no_leaf t i rules c.class);
}

-- compared child by child
pub children_within : (t : Tree) (x y : ℕ → ℕ) (p : ℕ) → ((i : ℕ) → Child t p i → x i ≤ y i) → children_sum t x p ≤ children_sum t y p
unfolding children_sum of_child
children_within t x y p h = sum_within (of_child t x p) (of_child t y p) t.count (λ i l u. go i l u (is_child t p i) refl)
  where
    go : (i : ℕ) → 1 ≤ i → i ≤ t.count → (b : Bool) → is_child t p i ≡ b → cond b (x i) 0 ≤ cond b (y i) 0
    go i l u true e = h i (child_of t p i l u e)
    go i l u false e = zero-le

pub children_same : (t : Tree) (x y : ℕ → ℕ) (p : ℕ) → ((i : ℕ) → Child t p i → x i ≡ y i) → children_sum t x p ≡ children_sum t y p
unfolding children_sum of_child
children_same t x y p h = sum_same (of_child t x p) (of_child t y p) t.count (λ i l u. go i l u (is_child t p i) refl)
  where
    go : (i : ℕ) → 1 ≤ i → i ≤ t.count → (b : Bool) → is_child t p i ≡ b → cond b (x i) 0 ≡ cond b (y i) 0
    go i l u true e = h i (child_of t p i l u e)
    go i l u false e = refl

-- ---- which numbers fit

-- the smaller of a sum and a number is at most the sum of the smaller ones
sum_smaller : (f : ℕ → ℕ) (c n : ℕ) → min (sum_to f n) c ≤ sum_to (λ i. min (f i) c) n
unfolding sum_to
sum_smaller f c zero = omega arith
sum_smaller f c (suc n) = omega (arith, sum_smaller f c n)

module _ (t : Tree) (request : ℕ → ℕ) (p has : ℕ) where
  -- 0 fits
  pub fits_zero : Fits t request p has 0
  unfolding children_sum of_child
  fits_zero =
      let e = sum_zero (of_child t (share_at t request 0) p) t.count (λ i l u. go i (is_child t p i)) in
      omega arith
    where
      go : (i : ℕ) (b : Bool) → cond b (min (request i) (weight_of t i * 0)) 0 ≡ 0
      go i true = omega (arith, mul-zero (weight_of t i))
      go i false = refl

  -- a smaller number fits where a larger one does
  pub fits_lower : (f g : ℕ) → f ≤ g → Fits t request p has g → Fits t request p has f
  fits_lower f g l h =
      omega (
        arith,
        children_within t (share_at t request f) (share_at t request g) p (λ i c. omega (arith, mul-le-mul_left (weight_of t i) l)),
      )

  -- every number fits where the request is met
  pub fits_met : (f : ℕ) → children_sum t request p ≤ has → Fits t request p has f
  fits_met f h = omega (arith, children_within t (share_at t request f) request p (λ i c. omega arith))

  -- a number that fits while the next does not is the largest
  pub largest_at : (f : ℕ) → Fits t request p has f → (Fits t request p has (f + 1) → ⊥) → Largest (Fits t request p has) f
  largest_at f h n = record { holds = h; most = λ g k. go g k (dec_le g f) }
    where
      go : (g : ℕ) → Fits t request p has g → Dec (g ≤ f) → g ≤ f
      go g k (yes l) = l
      go g k (no l) = absurd (n (fits_lower (f + 1) g (omega arith) k))

  -- and the next number is too large
  pub next_too_large : (f : ℕ) → Largest (Fits t request p has) f → has < children_sum t (share_at t request (f + 1)) p
  next_too_large f l = go (dec_le (children_sum t (share_at t request (f + 1)) p) has)
    where
      go : Dec (Fits t request p has (f + 1)) → has < children_sum t (share_at t request (f + 1)) p
      go (yes h) = absurd (omega (arith, l.most (f + 1) h))
      go (no h) = omega arith

  -- there is only one
  pub fair_unique : (f g : ℕ) → Largest (Fits t request p has) f → Largest (Fits t request p has) g → f ≡ g
  fair_unique f g a b = omega (arith, a.most g b.holds, b.most f a.holds)

  module _ (rules : PlanRules t) (unmet : has < children_sum t request p) where
    -- a child gets at least the smaller of its request and F, since its weight is at least 1
    share_least : (f i : ℕ) → 1 ≤ i → i ≤ t.count → min (of_child t request p i) f ≤ of_child t (share_at t request f) p i
    unfolding of_child
    share_least f i l u = go (is_child t p i) (mul-le-mul_right f (weight_range t i (rules.each.weights i (class_in_lem t i l u))).0)
      where
        go : (b : Bool) → 1 * f ≤ weight_of t i * f → min (cond b (request i) 0) f ≤ cond b (min (request i) (weight_of t i * f)) 0
        go true h = omega arith
        go false h = omega arith

    -- so what the class has plus 1 does not fit
    pub top_too_large : Fits t request p has (has + 1) → ⊥
    unfolding children_sum
    top_too_large h =
        let all = sum_smaller (of_child t request p) (has + 1) t.count in
        let each =
        sum_within (λ i. min (of_child t request p i) (has + 1)) (of_child t (share_at t request (has + 1)) p) t.count
        (share_least (has + 1))
        in
        omega arith

    -- so F exists, and is at most what the class has
    pub fair_exists : (f : ℕ) × Largest (Fits t request p has) f
    fair_exists = go (has + 1) (λ h. top_too_large h)
      where
        go : (n : ℕ) → (Fits t request p has n → ⊥) → (f : ℕ) × Largest (Fits t request p has) f
        go zero none = absurd (none fits_zero)
        go (suc n) none = on (dec_le (children_sum t (share_at t request n) p) has) (λ h. go n h)
          where
            on : Dec (Fits t request p has n) → ((Fits t request p has n → ⊥) → (f : ℕ) × Largest (Fits t request p has) f)
                → (f : ℕ) × Largest (Fits t request p has) f
            on (yes h) ih = (n, largest_at n h (λ k. none (rw add-one at k)))
            on (no h) ih = ih h

    pub fair_bound : (f : ℕ) → Largest (Fits t request p has) f → f ≤ has
    fair_bound f l = go (dec_le f has)
      where
        go : Dec (f ≤ has) → f ≤ has
        go (yes h) = h
        go (no h) = absurd (top_too_large (fits_lower (has + 1) f (omega arith) l.holds))

-- one more in F adds to the children's shares at most the weight of each unmet child
pub one_more_lem : (t : Tree) (request gets : ℕ → ℕ) (p f : ℕ) → ((i : ℕ) → Child t p i → gets i ≡ share_at t request f i)
    → children_sum t (share_at t request (f + 1)) p ≤ children_sum t (share_at t request f) p + unmet_weight t request gets p
unfolding children_sum of_child unmet_weight unmet_at
one_more_lem t request gets p f share =
    let next =
    sum_within (of_child t (share_at t request (f + 1)) p) (λ i. of_child t (share_at t request f) p i + of_child t (unmet_at t request gets) p i)
    t.count (λ i l u. go i l u (is_child t p i) refl (ltb (gets i) (request i)) refl)
    in
    let parts = sum_add (of_child t (share_at t request f) p) (of_child t (unmet_at t request gets) p) t.count in
    omega arith
  where
    go : (i : ℕ) → 1 ≤ i → i ≤ t.count → (x : Bool) → is_child t p i ≡ x → (y : Bool) → ltb (gets i) (request i) ≡ y
        → cond x (min (request i) (weight_of t i * (f + 1))) 0
        ≤ cond x (min (request i) (weight_of t i * f)) 0 + cond x (cond y (weight_of t i) 0) 0
    go i l u true e true g = omega arith
    go i l u true e false g = omega (arith, ltb-false (gets i) (request i) g, share i (child_of t p i l u e))
    go i l u false e y g = zero-le

-- ---- what fits a number of the code

module _ (t : Tree) (requests : List ℕ) (a : Adding t requests) where
  -- a child's share is within the largest request
  pub share_small : (p f i : ℕ) → of_child t (share_at t (entry requests) f) p i ≤ 63_000_000_000
  unfolding of_child
  share_small p f i = go (is_child t p i)
    where
      go : (b : Bool) → cond b (share_at t (entry requests) f i) 0 ≤ 63_000_000_000
      go true = omega (arith, a.small i)
      go false = zero-le

  -- weight × F fits
  pub share_fits : (f i : ℕ) → 1 ≤ i → i ≤ t.count → f ≤ 63_000_000_001 → weight_of t i * f < 2 ^ 64
  share_fits f i l u h =
      omega (arith, mul-le-mul (weight_range t i (a.rules.each.weights i (class_in_lem t i l u))).1 h)

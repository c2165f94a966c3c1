-- A class above is active exactly when an active leaf is below it, and that is the same as: exactly when a child of it is active. Demand 2.
use Rattle.std.proofs.Common.{◌≡◌, ℕ, zero, suc, ◌+◌, ◌-◌, ◌<◌, ◌≤◌, Bool, true, false, cond, ◌⊎◌, sym, refl, ◌∙◌, subst, inl, inr, arith}
use native.Mathlib.Decide.{dec_le, ℕ_discrete}
use Rattle.checks.proofs.Laws.{not_true_and_false}
use Rattle.sets.specs.Set.{has, with}
use Rattle.sets.proofs.Laws.{has_with_same, has_with_other, has_empty}
use Rattle.tree.specs.declared.Tree.{Tree}
use Rattle.tree.specs.Class.{parent_of, is_class, is_leaf}
use Rattle.tree.specs.Rules.{PlanRules}
use Rattle.tree.proofs.Classes.{class_range}
use Rattle.tree.proofs.Rules.{parent_lower, parent_no_leaf}
use Rattle.sound.specs.Sound.{ActiveLeafBelow}
use Rattle.tree.specs.Below.{Below, child, under, Above}
use Rattle.sound.specs.Steps.{parents_down}

-- a child of class i is active
pub record ActiveChild (t : Tree) (active i : ℕ) : Type 0 where
  pub child' : ℕ
  pub class : is_class t child' ≡ true
  pub parent : parent_of t child' ≡ i
  pub is_active : has active child' ≡ true

-- the two ways to say which classes above are active
pub record ByChild (t : Tree) (active : ℕ) : Type 0 where
  pub has_child_lem : (i : ℕ) → Above t i → has active i ≡ true → ActiveChild t active i
  pub from_child : (i : ℕ) → Above t i → ActiveChild t active i → has active i ≡ true

pub record ByLeaf (t : Tree) (active : ℕ) : Type 0 where
  pub has_leaf : (i : ℕ) → Above t i → has active i ≡ true → ActiveLeafBelow t active i
  pub from_leaf : (i : ℕ) → Above t i → ActiveLeafBelow t active i → has active i ≡ true

-- below what is below is below
pub below_trans : (t : Tree) (a b : ℕ) → Below t a b → (c : ℕ) → Below t b c → Below t a c
below_trans t a b h c (child i is e) = under i is (subst (λ (x : ℕ). Below t a x) (sym e) h)
below_trans t a b h c (under i is d) = under i is (below_trans t a b h (parent_of t i) d)

module _ (t : Tree) (active : ℕ) (rules : PlanRules t) where
  -- a parent is a class above
  pub parent_above : (i : ℕ) → is_class t i ≡ true → Above t (parent_of t i)
  parent_above i is = record {
    class = omega (arith, parent_lower t i rules is, (class_range t i is).1);
    inner = parent_no_leaf t i rules is;
  }

  -- by children: an active class makes every class that it is below active
  active_up : ByChild t active → (i : ℕ) → Above t i → (k : ℕ) → Below t i k → has active k ≡ true → has active i ≡ true
  active_up by i ab k (child j is e) a = by.from_child i ab (record { child' = j; class = is; parent = e; is_active = a })
  active_up by i ab k (under j is b) a =
      active_up by i ab (parent_of t j) b
      (by.from_child (parent_of t j) (parent_above j is) (record { child' = j; class = is; parent = refl; is_active = a }))

  -- and an active class above has an active leaf below it; n is how many classes come after it at most
  leaf_down : ByChild t active → (n i : ℕ) → t.count ≤ i + n → Above t i → has active i ≡ true → ActiveLeafBelow t active i
  leaf_down by zero i u ab a =
      let c = by.has_child_lem i ab a in
      absurd (omega (arith, parent_lower t c.child' rules c.class, (class_range t c.child' c.class).1, c.parent))
  leaf_down by (suc n) i u ab a = go (by.has_child_lem i ab a) (λ k v abk ak. leaf_down by n k v abk ak)
    where
      go : ActiveChild t active i → ((k : ℕ) → t.count ≤ k + n → Above t k → has active k ≡ true → ActiveLeafBelow t active k)
          → ActiveLeafBelow t active i
      go c ih = at (is_leaf t c.child') refl
        where
          low : i < c.child'
          low = omega (arith, parent_lower t c.child' rules c.class, c.parent)

          at : (b : Bool) → is_leaf t c.child' ≡ b → ActiveLeafBelow t active i
          at true l = record { leaf = c.child'; is_leaf = l; is_active = c.is_active; below = child c.child' c.class c.parent }
          at false l =
              let r = ih c.child' (omega (arith, low)) (record { class = (class_range t c.child' c.class).1; inner = l })
              c.is_active in
              record {
                leaf = r.leaf;
                is_leaf = r.is_leaf;
                is_active = r.is_active;
                below = below_trans t i c.child' (child c.child' c.class c.parent) r.leaf r.below;
              }

  pub child_to_leaf : ByChild t active → ByLeaf t active
  child_to_leaf by = record {
    has_leaf = λ i ab a. leaf_down by t.count i (omega arith) ab a;
    from_leaf = λ i ab r. active_up by i ab r.leaf r.below r.is_active;
  }

  -- by leaves: an active leaf at m or below it, where m is below i, leads to an active child of i
  AtOrBelow : ℕ → Type 0
  AtOrBelow m = (l : ℕ) × (is_leaf t l ≡ true) × (has active l ≡ true) × ((l ≡ m) ⊎ Below t m l)

  find_child : ByLeaf t active → (i m : ℕ) → Below t i m → AtOrBelow m → ActiveChild t active i
  unfolding AtOrBelow
  find_child by i m (child j is e) w = record { child' = j; class = is; parent = e; is_active = active_at w.3 (is_leaf t j) refl }
    where
      active_at : (w.0 ≡ j) ⊎ Below t j w.0 → (b : Bool) → is_leaf t j ≡ b → has active j ≡ true
      active_at (inl e) b l = rw e at w.2
      active_at (inr d) true l = absurd (leaf_no_child j w.0 d l)
        where
          leaf_no_child : (a k : ℕ) → Below t a k → is_leaf t a ≡ true → ⊥
          leaf_no_child a k (child x is e) q = not_true_and_false q (subst (λ (y : ℕ). is_leaf t y ≡ false) e (parent_no_leaf t x rules is))
          leaf_no_child a k (under x is b) q = leaf_no_child a (parent_of t x) b q
      active_at (inr d) false l =
          by.from_leaf j (record { class = (class_range t j is).1; inner = l })
          (record { leaf = w.0; is_leaf = w.1; is_active = w.2; below = d })
  find_child by i m (under j is b) w = find_child by i (parent_of t j) b (w.0, w.1, w.2, inr (up w.3))
    where
      up : (w.0 ≡ j) ⊎ Below t j w.0 → Below t (parent_of t j) w.0
      up (inl e) = subst (λ (x : ℕ). Below t (parent_of t j) x) (sym e) (child j is refl)
      up (inr d) = below_trans t (parent_of t j) j (child j is refl) w.0 d

  pub leaf_to_child : ByLeaf t active → ByChild t active
  unfolding AtOrBelow
  leaf_to_child by = record {
    has_child_lem = λ i ab a.
        let r = by.has_leaf i ab a in
        find_child by i r.leaf r.below (r.leaf, r.is_leaf, r.is_active, inl refl);
    from_child = λ i ab c. by.from_leaf i ab (leaf_of c (is_leaf t c.child') refl);
  }
    where
      leaf_of : {i : ℕ} → (c : ActiveChild t active i) → (b : Bool) → is_leaf t c.child' ≡ b → ActiveLeafBelow t active i
      leaf_of c true l =
          record { leaf = c.child'; is_leaf = l; is_active = c.is_active; below = child c.child' c.class c.parent }
      leaf_of {i} c false l =
          let r = by.has_leaf c.child' (record { class = (class_range t c.child' c.class).1; inner = l }) c.is_active in
          record {
            leaf = r.leaf;
            is_leaf = r.is_leaf;
            is_active = r.is_active;
            below = below_trans t i c.child' (child c.child' c.class c.parent) r.leaf r.below;
          }

-- the set of the active classes' parents, from the highest class down
-- the set of the active classes' parents, from the highest class down, has the parent of each active class, and no other
pub parents_in : (t : Tree) (active n k : ℕ) → 64 ≤ k + n → k < 64 → has active k ≡ true
    → has (parents_down t active n) (parent_of t k) ≡ true
unfolding parents_down
parents_in t active zero k l u a = absurd (omega arith)
parents_in t active (suc n) k l u a = go (dec_le 64 (k + n)) (λ m. parents_in t active n k m u a)
  where
    set : ℕ
    set = parents_down t active n

    stays : (b : Bool) → has set (parent_of t k) ≡ true → has (cond b (with set (parent_of t (63 - n))) set) (parent_of t k) ≡ true
    stays false e = e
    stays true e = at (ℕ_discrete (parent_of t k) (parent_of t (63 - n)))
      where
        at : Dec (parent_of t k ≡ parent_of t (63 - n)) → has (with set (parent_of t (63 - n))) (parent_of t k) ≡ true
        at (yes p) = rw p (has_with_same set (parent_of t (63 - n)))
        at (no p) = has_with_other set (parent_of t (63 - n)) (parent_of t k) p ∙ e

    go : Dec (64 ≤ k + n) → (64 ≤ k + n → has set (parent_of t k) ≡ true)
        → has (cond (has active (63 - n)) (with set (parent_of t (63 - n))) set) (parent_of t k) ≡ true
    go (yes m) ih = stays (has active (63 - n)) (ih m)
    go (no m) ih =
        let e : k ≡ 63 - n = omega arith in
        let a' : has active (63 - n) ≡ true = rw e at a in
        rw (a', e) (has_with_same set (parent_of t (63 - n)))

pub parents_only : (t : Tree) (active n i : ℕ) → has (parents_down t active n) i ≡ true
    → (k : ℕ) × (64 ≤ k + n) × (k < 64) × (has active k ≡ true) × (parent_of t k ≡ i)
unfolding parents_down
parents_only t active zero i h = absurd (not_true_and_false h (has_empty i))
parents_only t active (suc n) i h = go (has active (63 - n)) refl h (λ g. parents_only t active n i g)
  where
    set : ℕ
    set = parents_down t active n

    Found : ℕ → Type 0
    Found m = (k : ℕ) × (64 ≤ k + m) × (k < 64) × (has active k ≡ true) × (parent_of t k ≡ i)

    more : Found n → Found (suc n)
    more w = (w.0, omega (arith, w.1), w.2, w.3, w.4)

    go : (b : Bool) → has active (63 - n) ≡ b → has (cond b (with set (parent_of t (63 - n))) set) i ≡ true → (has set i ≡ true → Found n)
        → Found (suc n)
    go false e g ih = more (ih g)
    go true e g ih = at (ℕ_discrete i (parent_of t (63 - n)))
      where
        at : Dec (i ≡ parent_of t (63 - n)) → Found (suc n)
        at (yes p) = (63 - n, omega arith, omega arith, e, sym p)
        at (no p) = more (ih (sym (has_with_other set (parent_of t (63 - n)) i p) ∙ g))

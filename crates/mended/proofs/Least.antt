-- The mended weights (R267, R269): what each is, that they mend the tree, and that they are the least that do.
use mathlib.Core.Bool.{Bool, true, false, cond, ◌&&◌, not}
use mathlib.Core.Path.{◌≡◌, refl, sym, ap, ◌∙◌}
use Prim.Native.Nat.{ℕ, zero, suc, ◌+◌, ◌≤◌, ◌<◌, max}
use native.Mathlib.Omega.{arith}
use Rattle.units.specs.declared.Weight.{Weight}
use Rattle.tree.specs.declared.Tree.{Tree}
use Rattle.tree.specs.Class.{no_weight, weight_of, is_class, is_leaf, is_inner, is_child, of_child, children_sum}
use Rattle.tree.specs.Rules.{ClassesPass}
use Rattle.tree.proofs.Classes.{both_true}
use Rattle.tree.proofs.Rules.{lower_parent}
use Rattle.tree.specs.Sum.{sum_to}
use Rattle.tree.proofs.Sums.{sum_zero}
use Rattle.tree.proofs.Tables.{table_at}
use Rattle.allot.specs.Rates.{Child}
use Rattle.allot.proofs.Fair.{child_of, children_within, children_same}
use Rattle.mended.specs.Weights.{mended_in, mended_weight, mended_tree, Mends}

-- an inner class is a class and no leaf
pub inner_is : (t : Tree) (i : ℕ) → is_class t i ≡ true → is_leaf t i ≡ false → is_inner t i ≡ true
unfolding is_inner
inner_is t i is f = rw (is, f)

pub leaf_not_inner : (t : Tree) (i : ℕ) → is_leaf t i ≡ true → is_inner t i ≡ false
unfolding is_inner
leaf_not_inner t i f = rw f (go (is_class t i))
  where
    go : (b : Bool) → (b && false) ≡ false
    go true = refl
    go false = refl

pub no_class_not_inner : (t : Tree) (i : ℕ) → is_class t i ≡ false → is_inner t i ≡ false
unfolding is_inner
no_class_not_inner t i e = rw e

pub inner_class_lem : (t : Tree) (i : ℕ) → is_inner t i ≡ true → is_class t i ≡ true
unfolding is_inner
inner_class_lem t i e = (both_true (is_class t i) (not (is_leaf t i)) e).0

in_suc : (n : ℕ) (t : Tree) (i : ℕ)
    → mended_in (suc n) t i ≡ cond (is_inner t i) (max (weight_of t i) (children_sum t (mended_in n t) i)) (weight_of t i)
unfolding mended_in
in_suc n t i = refl

in_zero : (t : Tree) (i : ℕ) → mended_in zero t i ≡ weight_of t i
unfolding mended_in
in_zero t i = refl

-- what the mended tree has of class number i
pub mended_at : (t : Tree) (i : ℕ) → i < 64 → weight_of (mended_tree t) i ≡ mended_weight t i
mended_at t i u = ap (λ (w : Weight). w.0) (table_at (λ k. record { 0 = mended_weight t k }) no_weight 64 i u)

-- ---- the least

-- any weights that keep the leaves', lower none and obey rule 7 are at least these
in_least : (t : Tree) (w : ℕ → ℕ) → Mends t w → (n i : ℕ) → is_class t i ≡ true → mended_in n t i ≤ w i
in_least t w m zero i is = rw (in_zero t i) (m.lowers_none i is)
in_least t w m (suc n) i is = rw (in_suc n t i) (go (is_inner t i) refl (λ k c. in_least t w m n k c.class))
  where
    go : (b : Bool) → is_inner t i ≡ b → ((k : ℕ) → Child t i k → mended_in n t k ≤ w k)
        → cond b (max (weight_of t i) (children_sum t (mended_in n t) i)) (weight_of t i) ≤ w i
    go true e ih = omega (arith, children_within t (mended_in n t) w i ih, m.shares i e, m.lowers_none i is)
    go false e ih = m.lowers_none i is

pub mended_least : (t : Tree) (w : ℕ → ℕ) → Mends t w → (i : ℕ) → is_class t i ≡ true → mended_weight t i ≤ w i
unfolding mended_weight
mended_least t w m i is = in_least t w m 63 i is

-- ---- what each is, where parents are lower

module _ (t : Tree) (few : t.count ≤ 63) (each : ClassesPass t) where
  later : (p k : ℕ) → Child t p k → p < k
  later p k c = omega (arith, c.parent, lower_parent t k (each.parents k c.class))

  -- the highest class has no child
  no_children : (x : ℕ → ℕ) (i : ℕ) → t.count ≤ i → children_sum t x i ≡ 0
  unfolding children_sum of_child
  no_children x i u = sum_zero (of_child t x i) t.count (λ k l v. go k l v (is_child t i k) refl)
    where
      go : (k : ℕ) → 1 ≤ k → k ≤ t.count → (b : Bool) → is_child t i k ≡ b → cond b (x k) 0 ≡ 0
      go k l v true e = absurd (omega (arith, later i k (child_of t i k l v e)))
      go k l v false e = refl

  at_end : (n i : ℕ) → t.count ≤ i → mended_in n t i ≡ weight_of t i
  at_end zero i u = in_zero t i
  at_end (suc n) i u = in_suc n t i ∙ go (is_inner t i)
    where
      go : (b : Bool) → cond b (max (weight_of t i) (children_sum t (mended_in n t) i)) (weight_of t i) ≡ weight_of t i
      go true = omega (arith, no_children (mended_in n t) i u)
      go false = refl

  -- as many steps as there are classes after it are enough
  enough : (n m i : ℕ) → t.count ≤ n + i → t.count ≤ m + i → mended_in n t i ≡ mended_in m t i
  enough zero m i u v = in_zero t i ∙ sym (at_end m i (omega arith))
  enough (suc n) m i u v = go m v (λ q k c w. enough n q k (omega (arith, later i k c)) w)
    where
      go : (m : ℕ) → t.count ≤ m + i → ((q k : ℕ) → Child t i k → t.count ≤ q + k → mended_in n t k ≡ mended_in q t k)
          → mended_in (suc n) t i ≡ mended_in m t i
      go zero v ih = at_end (suc n) i (omega arith) ∙ sym (in_zero t i)
      go (suc q) v ih =
          let same = children_same t (mended_in n t) (mended_in q t) i (λ k c. ih q k c (omega (arith, later i k c))) in
          in_suc n t i
          ∙ ap (λ (s : ℕ). cond (is_inner t i) (max (weight_of t i) s) (weight_of t i)) same
          ∙ sym (in_suc q t i)

  -- an inner class's is the larger of its own and its children's mended weights together, any other's its own
  pub mended_is : (i : ℕ)
      → mended_weight t i ≡ cond (is_inner t i) (max (weight_of t i) (children_sum t (mended_weight t) i)) (weight_of t i)
  unfolding mended_weight
  mended_is i = enough 63 (suc 63) i (omega arith) (omega arith) ∙ in_suc 63 t i

  pub mended_inner : (i : ℕ) → is_inner t i ≡ true → mended_weight t i ≡ max (weight_of t i) (children_sum t (mended_weight t) i)
  mended_inner i e = mended_is i ∙ rw e

  pub mended_own : (i : ℕ) → is_inner t i ≡ false → mended_weight t i ≡ weight_of t i
  mended_own i e = mended_is i ∙ rw e

  -- no weight is lowered
  pub mended_up : (i : ℕ) → weight_of t i ≤ mended_weight t i
  mended_up i = go (is_inner t i) refl
    where
      go : (b : Bool) → is_inner t i ≡ b → weight_of t i ≤ mended_weight t i
      go true e = omega (arith, mended_inner i e)
      go false e = omega (arith, mended_own i e)

  -- they keep the leaves', lower none and obey rule 7
  pub mended_mends : Mends t (mended_weight t)
  mended_mends = record {
    leaves = λ i is f. mended_own i (leaf_not_inner t i f);
    lowers_none = λ i is. mended_up i;
    shares = λ i e. omega (arith, mended_inner i e);
  }

  -- what the classes after class i add is all that its children weigh
  pub none_before : (x : ℕ → ℕ) (i : ℕ) → i ≤ t.count → sum_to (of_child t x i) i ≡ 0
  unfolding of_child
  none_before x i u = sum_zero (of_child t x i) i (λ k l v. go k l v (is_child t i k) refl)
    where
      go : (k : ℕ) → 1 ≤ k → k ≤ i → (b : Bool) → is_child t i k ≡ b → cond b (x k) 0 ≡ 0
      go k l v true e = absurd (omega (arith, later i k (child_of t i k l (omega arith) e)))
      go k l v false e = refl

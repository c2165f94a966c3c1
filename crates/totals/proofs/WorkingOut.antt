-- Laws of totals in lent tables: what working them out leaves, that a table counted at its leaf and at the root is worked out to the one
-- on the
-- way up, and that the tables of a sound link are worked out. Demand 2.
use mathlib.Core.Bool.{Bool, true, false, cond, ◌&&◌, not}
use mathlib.Core.List.{List}
use mathlib.Core.Path.{◌≡◌, refl, sym, ap, ◌∙◌}
use Prim.Native.Nat.{ℕ, zero, suc, ◌+◌, ◌≤◌, ◌<◌}
use native.Mathlib.Decide.{ℕ_discrete}
use native.Mathlib.Omega.{arith}
use lib.ListN.{length, get_or, set, length-set}
use lib.Seq.{get_or-set_same, get_or-set_other, ext_get_or}
use Rattle.checks.proofs.Laws.{not_true_and_false}
use Rattle.sets.specs.Set.{has}
use Rattle.tree.specs.declared.Tree.{Tree}
use Rattle.tree.specs.Class.{parent_of, is_class, is_leaf, is_inner, is_child}
use Rattle.tree.specs.Below.{at_or_below, leaf_below, leaves_sum, changed_up}
use Rattle.tree.specs.Rules.{PlanRules}
use Rattle.tree.proofs.Classes.{class_in_lem, class_range, root_no_class}
use Rattle.tree.proofs.Below.{below_self, below_least}
use Rattle.tree.proofs.Rules.{few_classes, leaf_number, parent_lower, parent_no_leaf}
use Rattle.tree.proofs.Leaves.{leaf_alone, leaf_least, leaf_known, leaf_sum, below_the_root}
use Rattle.tree.proofs.Changes.{sum_changes, changed_up_lem, changed_length}
use Rattle.tree.proofs.Sums.{sum_same}
use Rattle.tree.proofs.Tables.{table_length, table_at}
use Rattle.shape.specs.Shape.{Families}
use Rattle.totals.specs.WorkedOut.{worked_out_at, worked_out, changed_ends}

-- what a number that is no inner class counts stays, and what an inner class counts is its leaves'
pub own_at : (t : Tree) (xs : List ℕ) (i : ℕ) → is_inner t i ≡ false → worked_out_at t xs i ≡ get_or xs i 0
unfolding worked_out_at
own_at t xs i off = rw off refl

pub inner_at : (t : Tree) (xs : List ℕ) (i : ℕ) → is_inner t i ≡ true → worked_out_at t xs i ≡ leaves_sum t (λ j. get_or xs j 0) i
unfolding worked_out_at
inner_at t xs i is = rw is refl

pub worked_out_at_lem : (t : Tree) (xs : List ℕ) (i : ℕ) → i < 64 → get_or (worked_out t xs) i 0 ≡ worked_out_at t xs i
unfolding worked_out
worked_out_at_lem t xs i u = table_at (worked_out_at t xs) 0 64 i u

pub worked_out_length : (t : Tree) (xs : List ℕ) → length (worked_out t xs) ≡ 64
unfolding worked_out
worked_out_length t xs = table_length (worked_out_at t xs) 64

-- the root and the leaves are not inner; of the classes any other is
pub root_not_inner : (t : Tree) → is_inner t 0 ≡ false
unfolding is_inner
root_not_inner t = rw (root_no_class t) refl

pub leaf_not_inner : (t : Tree) (i : ℕ) → is_leaf t i ≡ true → is_inner t i ≡ false
unfolding is_inner
leaf_not_inner t i leaf = rw leaf (go (is_class t i))
  where
    go : (b : Bool) → (b && not true) ≡ false
    go true = refl
    go false = refl

pub other_inner : (t : Tree) (i : ℕ) → is_class t i ≡ true → is_leaf t i ≡ false → is_inner t i ≡ true
unfolding is_inner
other_inner t i is off = rw (is, off) refl

no_class_lem : (t : Tree) (i : ℕ) → is_inner t i ≡ false → is_leaf t i ≡ false → is_class t i ≡ false
unfolding is_inner
no_class_lem t i e off = go (is_class t i) refl
  where
    go : (b : Bool) → is_class t i ≡ b → is_class t i ≡ false
    go true is = absurd (not_true_and_false (other_inner t i is off) e)
    go false is = is

pub worked_out_own : (t : Tree) (xs : List ℕ) (i : ℕ) → i < 64 → is_inner t i ≡ false → get_or (worked_out t xs) i 0 ≡ get_or xs i 0
worked_out_own t xs i u off = worked_out_at_lem t xs i u ∙ own_at t xs i off

-- a table is worked out where every inner class counts what its leaves do
pub worked_out_is : (t : Tree) (xs ys : List ℕ) → length ys ≡ 64 →
    ((i : ℕ) → i < 64 → get_or ys i 0 ≡ worked_out_at t xs i) → ys ≡ worked_out t xs
worked_out_is t xs ys long at =
    ext_get_or 0 ys (worked_out t xs) (long ∙ sym (worked_out_length t xs))
    (λ k v. at k (omega (arith, v, long)) ∙ sym (worked_out_at_lem t xs k (omega (arith, v, long))))

-- sums over leaves that have the same
leaves_alike : (t : Tree) (f g : ℕ → ℕ) (i : ℕ) → ((j : ℕ) → is_leaf t j ≡ true → f j ≡ g j) → leaves_sum t f i ≡ leaves_sum t g i
unfolding leaves_sum leaf_below
leaves_alike t f g i same =
    sum_same (leaf_below t f i) (leaf_below t g i) t.count (λ j l u. go j (is_leaf t j) refl (at_or_below t i j))
  where
    go : (j : ℕ) (a : Bool) → is_leaf t j ≡ a → (b : Bool) → cond (is_leaf t j && b) (f j) 0 ≡ cond (is_leaf t j && b) (g j) 0
    go j true leaf true = rw leaf (same j leaf)
    go j true leaf false = rw leaf refl
    go j false leaf b = rw leaf refl

-- a table that counts at every number what its leaves count is worked out
pub right_worked_out : (t : Tree) → PlanRules t → (f : ℕ → ℕ) (xs : List ℕ) → length xs ≡ 64
    → ((k : ℕ) → k < 64 → get_or xs k 0 ≡ leaves_sum t f k) → xs ≡ worked_out t xs
right_worked_out t rules f xs long right = worked_out_is t xs xs long (λ k u. go k u (is_inner t k) refl)
  where
    alike : (j : ℕ) → is_leaf t j ≡ true → get_or xs j 0 ≡ f j
    alike j leaf = right j (leaf_number t j rules leaf) ∙ leaf_sum t rules f j leaf

    go : (k : ℕ) → k < 64 → (b : Bool) → is_inner t k ≡ b → get_or xs k 0 ≡ worked_out_at t xs k
    go k u true is = right k u ∙ sym (inner_at t xs k is ∙ leaves_alike t (λ j. get_or xs j 0) f k alike)
    go k u false off = sym (own_at t xs k off)

-- and so is any table where the root's children are the leaves: then no class is inner
module _ (t : Tree) (rules : PlanRules t) (children : List ℕ) (kin : Families t children) (flat : get_or children 0 0 ≡ t.leaves) where
  child_of : (i : ℕ) → parent_of t i ≡ 0 → is_child t 0 i ≡ true
  unfolding is_child
  child_of i z = rw z refl

  none_inner : (n i : ℕ) → i ≤ n → is_class t i ≡ true → is_leaf t i ≡ true
  unfolding is_leaf
  none_inner zero i u is = absurd (omega (arith, u, (class_range t i is).0))
  none_inner (suc n) i u is = go (is_leaf t i) refl (ℕ_discrete (parent_of t i) 0) (λ j a b. none_inner n j a b)
    where
      go : (b : Bool) → is_leaf t i ≡ b → Dec (parent_of t i ≡ 0) → ((j : ℕ) → j ≤ n → is_class t j ≡ true → is_leaf t j ≡ true)
          → is_leaf t i ≡ true
      go true e d ih = e
      go false e (yes z) ih =
          let r = class_range t i is in
          let child = kin.child 0 i (omega arith) (omega (arith, r.1, few_classes t rules)) in
          ap (λ (s : ℕ). has s i) (sym flat) ∙ child ∙ rw (is, child_of i z) refl
      go false e (no z) ih =
          let low = parent_lower t i rules is in
          let r = class_range t i is in
          let up = class_in_lem t (parent_of t i) (omega (arith, z)) (omega (arith, low, r.1)) in
          absurd (not_true_and_false (ih (parent_of t i) (omega (arith, low, u)) up) (parent_no_leaf t i rules is))

  pub flat_worked_out : (xs : List ℕ) → length xs ≡ 64 → xs ≡ worked_out t xs
  unfolding is_inner
  flat_worked_out xs long = worked_out_is t xs xs long (λ k u. sym (own_at t xs k (go k (is_class t k) refl)))
    where
      go : (k : ℕ) (b : Bool) → is_class t k ≡ b → is_inner t k ≡ false
      go k true is = leaf_not_inner t k (none_inner k k (omega arith) is)
      go k false off = rw off refl

-- counted at its leaf and at the root, a table is worked out to the one counted on the way up
module _ (t : Tree) (rules : PlanRules t) (f : ℕ → ℕ) (i : ℕ) (leaf : is_leaf t i ≡ true) (xs : List ℕ) (long : length xs ≡ 64)
    (step : (a b : ℕ) → b + get_or xs i 0 ≡ a + f (get_or xs i 0) → f a ≡ b) where
  ys : List ℕ
  ys = changed_ends f i xs

  one : ℕ → ℕ
  one j = get_or (set xs i (f (get_or xs i 0))) j 0

  u : i < 64
  u = leaf_number t i rules leaf

  own : one i ≡ f (get_or xs i 0)
  unfolding one
  own = get_or-set_same xs i (f (get_or xs i 0)) 0 (omega (arith, long, u))

  -- but for the root
  at_class : (j : ℕ) → (j ≡ 0 → ⊥) → get_or ys j 0 ≡ one j
  unfolding one ys
  at_class j n = get_or-set_other (set xs i (f (get_or xs i 0))) 0 j (f (get_or xs 0 0)) 0 n

  at_root : get_or ys 0 0 ≡ f (get_or xs 0 0)
  unfolding ys
  at_root =
      get_or-set_same (set xs i (f (get_or xs i 0))) 0 (f (get_or xs 0 0)) 0
      (omega (arith, long, length-set xs i (f (get_or xs i 0))))

  inner : (k : ℕ) (b : Bool) → at_or_below t k i ≡ b
      → leaves_sum t (λ j. get_or ys j 0) k ≡ cond b (f (leaves_sum t (λ j. get_or xs j 0) k)) (leaves_sum t (λ j. get_or xs j 0) k)
  unfolding one
  inner k b e = alike ∙ go b e
    where
      alike : leaves_sum t (λ j. get_or ys j 0) k ≡ leaves_sum t one k
      alike = leaves_alike t (λ j. get_or ys j 0) one k (λ j is. at_class j (λ z. omega (arith, z, leaf_least t rules j is)))

      moved : leaves_sum t one k + cond (at_or_below t k i) (get_or xs i 0) 0
          ≡ leaves_sum t (λ j. get_or xs j 0) k + cond (at_or_below t k i) (one i) 0
      moved =
          sum_changes t rules (λ j. get_or xs j 0) one i k leaf (λ j ne. sym (get_or-set_other xs i j (f (get_or xs i 0)) 0 ne))

      go : (b : Bool) → at_or_below t k i ≡ b
          → leaves_sum t one k ≡ cond b (f (leaves_sum t (λ j. get_or xs j 0) k)) (leaves_sum t (λ j. get_or xs j 0) k)
      go true e =
          let m = rw e at moved in
          sym (step (leaves_sum t (λ j. get_or xs j 0) k) (leaves_sum t one k) (omega (arith, m, own)))
      go false e = let m = rw e at moved in omega (arith, m)

  -- a number that is no inner class, nor the root, nor the leaf, is not above the leaf
  apart : (k : ℕ) → is_inner t k ≡ false → (k ≡ 0 → ⊥) → (k ≡ i → ⊥) → (b : Bool) → at_or_below t k i ≡ b → b ≡ false
  apart k off z ne false e = refl
  apart k off z ne true e = go (is_leaf t k) refl
    where
      go : (a : Bool) → is_leaf t k ≡ a → true ≡ false
      go true is =
          absurd (ne (sym (leaf_alone t rules k i is (class_in_lem t i (leaf_least t rules i leaf) (leaf_known t rules i leaf)) e)))
      go false is =
          let out = no_class_lem t k off is in
          let in_range = class_in_lem t k (omega (arith, z)) (omega (arith, below_least t rules k i u e, leaf_known t rules i leaf)) in
          absurd (not_true_and_false in_range out)

  other : (k : ℕ) → k < 64 → is_inner t k ≡ false → get_or ys k 0 ≡ cond (at_or_below t k i) (f (get_or xs k 0)) (get_or xs k 0)
  unfolding one
  other k v off = go (ℕ_discrete k 0) (ℕ_discrete k i)
    where
      go : Dec (k ≡ 0) → Dec (k ≡ i) → get_or ys k 0 ≡ cond (at_or_below t k i) (f (get_or xs k 0)) (get_or xs k 0)
      go (yes z) d = rw (z, below_the_root t rules i u) at_root
      go (no z) (yes e) = rw (e, below_self t rules i u) (at_class i (λ o. z (e ∙ o)) ∙ own)
      go (no z) (no e) =
          rw (apart k off z e (at_or_below t k i) refl) (at_class k z ∙ get_or-set_other xs i k (f (get_or xs i 0)) 0 e)

  pub ends_work_out : worked_out t (changed_ends f i xs) ≡ changed_up t f i (worked_out t xs)
  unfolding ys
  ends_work_out =
      ext_get_or 0 (worked_out t (changed_ends f i xs)) (changed_up t f i (worked_out t xs))
      (worked_out_length t (changed_ends f i xs) ∙ sym (changed_length t f i (worked_out t xs) ∙ worked_out_length t xs))
      (λ k v. at k (omega (arith, v, worked_out_length t (changed_ends f i xs))))
    where
      go : (k : ℕ) → k < 64 → (b : Bool) → is_inner t k ≡ b
          → worked_out_at t ys k ≡ cond (at_or_below t k i) (f (worked_out_at t xs k)) (worked_out_at t xs k)
      go k v true is = rw (inner_at t ys k is, inner_at t xs k is) (inner k (at_or_below t k i) refl)
      go k v false off = rw (own_at t ys k off, own_at t xs k off) (other k v off)

      at : (k : ℕ) → k < 64 → get_or (worked_out t ys) k 0 ≡ get_or (changed_up t f i (worked_out t xs)) k 0
      at k v =
          worked_out_at_lem t ys k v ∙ go k v (is_inner t k) refl
          ∙ sym (changed_up_lem t rules f i (worked_out t xs) k u (worked_out_length t xs)
          ∙ ap (λ (x : ℕ). cond (at_or_below t k i) (f x) x) (worked_out_at_lem t xs k v))

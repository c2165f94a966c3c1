-- Sums over the leaves at or below a class: a leaf has its own, any other class what its children's add to. Demand 2.
use mathlib.Core.Bool.{Bool, true, false, cond, ◌&&◌}
use mathlib.Core.Path.{◌≡◌, refl, sym, ap, ◌∙◌}
use Prim.Native.Nat.{ℕ, zero, suc, ◌+◌, ◌*◌, ◌≤◌, ◌<◌, zero-le}
use native.Mathlib.Decide.{dec_le, ℕ_discrete}
use native.Mathlib.Omega.{arith}
use lib.Dec.{eqb}
use borrow.Author.Tests.{eq-eqb, ne_eqb, eqb-true}
use Rattle.checks.proofs.Laws.{not_true_and_false}
use Rattle.tree.specs.declared.Tree.{Tree}
use Rattle.tree.specs.Class.{parent_of, is_class, is_leaf, is_child, of_child, children_sum}
use Rattle.tree.specs.Below.{at_or_below, leaf_below, leaves_sum, AddsBelow}
use Rattle.tree.specs.Rules.{PlanRules}
use Rattle.tree.specs.Sum.{sum_to}
use Rattle.tree.proofs.Classes.{both_true, class_in_lem, class_range, class_past, root_no_class, child_own}
use Rattle.tree.proofs.Rules.{few_classes, leaf_number, parent_lower, parent_no_leaf, parent_below}
use Rattle.tree.proofs.Below.{below_root, below_self, below_least, below_parent}
use Rattle.tree.proofs.Sums.{sum_same, sum_zero, sum_one, sum_add, sum_swap, sum_bound, sum_part, sum_longer}

module _ (t : Tree) (rules : PlanRules t) where
  -- the root is no leaf
  pub root_no_leaf : is_leaf t 0 ≡ false
  root_no_leaf = ((rules.unset.at 0 (omega arith)).past (root_no_class t)).leaf

  -- nothing but itself is at or below a leaf
  pub leaf_alone : (i j : ℕ) → is_leaf t i ≡ true → is_class t j ≡ true → at_or_below t i j ≡ true → j ≡ i
  leaf_alone i j leaf is h = go (ℕ_discrete i j)
    where
      q : ℕ
      q = parent_of t j

      -- the parent is at or below the leaf too, and so on up to a class that has the leaf for its parent
      up : (n k : ℕ) → k ≤ n → k < 64 → is_leaf t k ≡ false → at_or_below t i k ≡ true → ⊥
      up zero k a u no_leaf_lem b =
          let z : k ≡ 0 = omega arith in
          let e : i ≡ 0 = eqb-true i 0 (sym (below_root t rules i) ∙ (rw z at b)) in
          not_true_and_false (rw e at leaf) root_no_leaf
      up (suc n) k a u no_leaf_lem b = on (ℕ_discrete k 0) (ℕ_discrete i k) (λ m x y z w. up n m x y z w)
        where
          class_or_past : (c : Bool) → is_class t k ≡ c → is_leaf t (parent_of t k) ≡ false
          class_or_past true e = parent_no_leaf t k rules e
          class_or_past false e = rw ((rules.unset.at k u).past e).parent root_no_leaf

          on : Dec (k ≡ 0) → Dec (i ≡ k) → ((m : ℕ) → m ≤ n → m < 64 → is_leaf t m ≡ false → at_or_below t i m ≡ true → ⊥) → ⊥
          on (yes z) d ih =
              let e : i ≡ 0 = eqb-true i 0 (sym (below_root t rules i) ∙ (rw z at b)) in
              not_true_and_false (rw e at leaf) root_no_leaf
          on (no z) (yes e) ih = not_true_and_false (rw e at leaf) no_leaf_lem
          on (no z) (no e) ih =
              let low = parent_below t k rules (omega arith) u in
              ih (parent_of t k) (omega arith) (omega arith) (class_or_past (is_class t k) refl)
              (sym (below_parent t rules i k (omega arith) u e) ∙ b)

      go : Dec (i ≡ j) → j ≡ i
      go (yes e) = sym e
      go (no e) =
          let r = class_range t j is in
          let u : j < 64 = omega (arith, r.1, few_classes t rules) in
          let low = parent_lower t j rules is in
          absurd (up (parent_of t j) (parent_of t j) (omega arith) (omega arith) (parent_no_leaf t j rules is)
          (sym (below_parent t rules i j r.0 u e) ∙ h))

  -- of the children of class p one is at or above class j where class p is above it, else none
  module _ (p x : ℕ) where
    through : ℕ → ℕ → ℕ
    through j c = cond (is_child t p c && at_or_below t c j) x 0

    through_none : sum_to (through p) t.count ≡ 0
    unfolding through is_child
    through_none = sum_zero (through p) t.count (λ c l u. go c (class_in_lem t c l u) (is_child t p c && at_or_below t c p) refl)
      where
        go : (c : ℕ) → is_class t c ≡ true → (b : Bool) → (is_child t p c && at_or_below t c p) ≡ b → cond b x 0 ≡ 0
        go c is true e =
            let h = both_true (eqb (parent_of t c) p) (at_or_below t c p) e in
            let q = eqb-true (parent_of t c) p h.0 in
            let low = parent_lower t c rules is in
            let r = class_range t c is in
            absurd (omega (arith, below_least t rules c p (omega (arith, r.1, few_classes t rules)) h.1))
        go c is false e = refl

    through_root : sum_to (through 0) t.count ≡ 0
    unfolding through
    through_root = sum_zero (through 0) t.count (λ c l u. rw (below_root t rules c, ne_eqb c 0 (λ z. omega arith)) (go (is_child t p c)))
      where
        go : (b : Bool) → cond (b && false) x 0 ≡ 0
        go true = refl
        go false = refl

    -- a step up: class j itself, or one at or above its parent
    through_step : (j : ℕ) → 1 ≤ j → j ≤ t.count
        → sum_to (through j) t.count ≡ cond (is_child t p j) x 0 + sum_to (through (parent_of t j)) t.count
    unfolding through
    through_step j l u =
        sum_same (through j) (λ c. own c + through (parent_of t j) c) t.count (λ c a b. at c (ℕ_discrete c j))
        ∙ sum_add own (through (parent_of t j)) t.count
        ∙ ap (λ (n : ℕ). n + sum_to (through (parent_of t j)) t.count)
        (sum_one own t.count j l u (λ k a b ne. own_other k ne) ∙ own_here)
      where
        own : ℕ → ℕ
        own c = cond (eqb c j) (cond (is_child t p j) x 0) 0

        own_here : own j ≡ cond (is_child t p j) x 0
        own_here = rw (eq-eqb j j refl) refl

        own_other : (k : ℕ) → (k ≡ j → ⊥) → own k ≡ 0
        own_other k ne = rw (ne_eqb k j ne) refl

        v : j < 64
        v = omega (arith, few_classes t rules)

        low : parent_of t j < j
        low = parent_lower t j rules (class_in_lem t j l u)

        both : (b : Bool) → cond (b && true) x 0 ≡ cond b x 0 + cond (b && false) x 0
        both true = omega arith
        both false = refl

        no_higher : (b : Bool) → at_or_below t j (parent_of t j) ≡ b → b ≡ false
        no_higher true e = absurd (omega (arith, below_least t rules j (parent_of t j) (omega (arith, low, v)) e, low))
        no_higher false e = refl

        at : (c : ℕ) → Dec (c ≡ j) → through j c ≡ own c + through (parent_of t j) c
        at c (yes e) =
            let here = below_self t rules j v in
            let gone = no_higher (at_or_below t j (parent_of t j)) refl in
            rw (e, own_here, here, gone) (both (is_child t p j))
        at c (no e) = rw (own_other c e, below_parent t rules c j l v e) (omega arith)

    through_one : (j : ℕ) → j ≤ t.count → (j ≡ p → ⊥) → sum_to (through j) t.count ≡ cond (at_or_below t p j) x 0
    unfolding is_child
    through_one j u ne = climb j j (omega arith) u ne
      where
        climb : (n j : ℕ) → j ≤ n → j ≤ t.count → (j ≡ p → ⊥) → sum_to (through j) t.count ≡ cond (at_or_below t p j) x 0
        climb zero j a u ne =
            let z : j ≡ 0 = omega arith in
            rw z (through_root ∙ sym (rw (below_root t rules p, ne_eqb p 0 (λ e. ne (omega arith))) refl))
        climb (suc n) j a u ne = go (ℕ_discrete j 0) (ℕ_discrete (parent_of t j) p) (λ k x y z. climb n k x y z)
          where
            go : Dec (j ≡ 0) → Dec (parent_of t j ≡ p)
                → ((k : ℕ) → k ≤ n → k ≤ t.count → (k ≡ p → ⊥) → sum_to (through k) t.count ≡ cond (at_or_below t p k) x 0)
                → sum_to (through j) t.count ≡ cond (at_or_below t p j) x 0
            go (yes z) d ih = rw z (through_root ∙ sym (rw (below_root t rules p, ne_eqb p 0 (λ e. ne (omega arith))) refl))
            go (no z) (yes e) ih =
                let l : 1 ≤ j = omega arith in
                let v : j < 64 = omega (arith, few_classes t rules) in
                let low = parent_lower t j rules (class_in_lem t j l u) in
                let above : at_or_below t p j ≡ true =
                below_parent t rules p j l v (λ z. ne (sym z)) ∙ rw e (below_self t rules p (omega arith))
                in
                through_step j l u
                ∙ rw (e, above, eq-eqb p p refl, through_none) (omega arith)
            go (no z) (no e) ih =
                let l : 1 ≤ j = omega arith in
                let v : j < 64 = omega (arith, few_classes t rules) in
                let low = parent_lower t j rules (class_in_lem t j l u) in
                through_step j l u
                ∙ rw (
                  ne_eqb (parent_of t j) p e,
                  ih (parent_of t j) (omega arith) (omega arith) e,
                  below_parent t rules p j l v
                      (λ z. ne (sym z)),
                ) (omega arith)

  -- no class is at or below a number past the last
  pub past_sum : (f : ℕ → ℕ) (i : ℕ) → t.count < i → leaves_sum t f i ≡ 0
  unfolding leaves_sum leaf_below
  past_sum f i h = sum_zero (leaf_below t f i) t.count (λ j l u. go j u (is_leaf t j && at_or_below t i j) refl)
    where
      go : (j : ℕ) → j ≤ t.count → (b : Bool) → (is_leaf t j && at_or_below t i j) ≡ b → cond b (f j) 0 ≡ 0
      go j u true e =
          absurd (omega (
            arith,
            below_least t rules i j (omega (arith, few_classes t rules)) (both_true (is_leaf t j) (at_or_below t i j) e).1,
          ))
      go j u false e = refl

  pub leaf_least : (i : ℕ) → is_leaf t i ≡ true → 1 ≤ i
  leaf_least i leaf = go (ℕ_discrete i 0)
    where
      go : Dec (i ≡ 0) → 1 ≤ i
      go (yes z) = absurd (not_true_and_false (rw z at leaf) root_no_leaf)
      go (no z) = omega arith

  pub leaf_known : (i : ℕ) → is_leaf t i ≡ true → i ≤ t.count
  leaf_known i leaf = go (dec_le i t.count)
    where
      go : Dec (i ≤ t.count) → i ≤ t.count
      go (yes u) = u
      go (no u) =
          let none = ((rules.unset.at i (leaf_number t i rules leaf)).past (class_past t i (omega arith))).leaf in
          absurd (not_true_and_false leaf none)

  -- a leaf is the only one at or below itself
  pub leaf_sum : (f : ℕ → ℕ) (i : ℕ) → is_leaf t i ≡ true → leaves_sum t f i ≡ f i
  unfolding leaves_sum leaf_below
  leaf_sum f i leaf =
      sum_one (leaf_below t f i) t.count i (leaf_least i leaf) (leaf_known i leaf)
      (λ j l v ne. other j (class_in_lem t j l v) ne (is_leaf t j && at_or_below t i j) refl)
      ∙ rw (leaf, below_self t rules i (leaf_number t i rules leaf)) refl
    where
      other : (j : ℕ) → is_class t j ≡ true → (j ≡ i → ⊥) → (b : Bool) → (is_leaf t j && at_or_below t i j) ≡ b → cond b (f j) 0 ≡ 0
      other j is ne true e = absurd (ne (leaf_alone i j leaf is (both_true (is_leaf t j) (at_or_below t i j) e).1))
      other j is ne false e = refl

  -- the sum of the root or an inner class is what its children's add to
  pub sums_add : (f : ℕ → ℕ) (p : ℕ) → is_leaf t p ≡ false → leaves_sum t f p ≡ children_sum t (leaves_sum t f) p
  unfolding leaves_sum children_sum of_child leaf_below through
  sums_add f p above =
      sum_same (leaf_below t f p) (λ j. sum_to (λ c. part c j) t.count) t.count (λ j l v. sym (one j l v (is_leaf t j) refl))
      ∙ sym (sum_swap part t.count t.count)
      ∙ sum_same (λ c. sum_to (part c) t.count) (of_child t (leaves_sum t f) p) t.count (λ c l v. child c v (is_child t p c))
    where
      part : ℕ → ℕ → ℕ
      part c j = cond (is_child t p c) (leaf_below t f c j) 0

      child : (c : ℕ) → c ≤ t.count → (b : Bool) → sum_to (λ j. cond b (leaf_below t f c j) 0) t.count ≡ cond b (leaves_sum t f c) 0
      child c v true = refl
      child c v false = sum_zero (λ j. 0) t.count (λ j a b. refl)

      on_leaf : (j : ℕ) (a b : Bool) → cond a (cond (true && b) (f j) 0) 0 ≡ cond (a && b) (f j) 0
      on_leaf j true b = refl
      on_leaf j false b = refl

      no_leaf_lem : (j : ℕ) (a b : Bool) → cond a (cond (false && b) (f j) 0) 0 ≡ 0
      no_leaf_lem j true b = refl
      no_leaf_lem j false b = refl

      one : (j : ℕ) → 1 ≤ j → j ≤ t.count → (b : Bool) → is_leaf t j ≡ b
          → sum_to (λ c. part c j) t.count ≡ cond (is_leaf t j && at_or_below t p j) (f j) 0
      one j l v true leaf =
          rw leaf
          (sum_same (λ c. cond (is_child t p c) (cond (true && at_or_below t c j) (f j) 0) 0) (through p (f j) j)
          t.count (λ c a b. on_leaf j (is_child t p c) (at_or_below t c j))
          ∙ through_one p (f j) j v (λ e. not_true_and_false leaf (rw e above)))
      one j l v false leaf =
          rw leaf (sum_zero (λ c. cond (is_child t p c) (cond (false && at_or_below t c j) (f j) 0) 0) t.count
          (λ c a b. no_leaf_lem j (is_child t p c) (at_or_below t c j)))

  -- ---- the sums told by the children alone

  module _ (f : ℕ → ℕ) where
    -- sums of the same numbers of children, which come after their parent
    children_after_lem : (x y : ℕ → ℕ) (p : ℕ) → ((i : ℕ) → p < i → i ≤ t.count → x i ≡ y i) → children_sum t x p ≡ children_sum t y p
    unfolding children_sum of_child is_child
    children_after_lem x y p same =
        sum_same (of_child t x p) (of_child t y p) t.count (λ i l u. go i l u (eqb (parent_of t i) p) refl)
      where
        go : (i : ℕ) → 1 ≤ i → i ≤ t.count → (b : Bool) → eqb (parent_of t i) p ≡ b → cond b (x i) 0 ≡ cond b (y i) 0
        go i l u true e =
            let low = parent_lower t i rules (class_in_lem t i l u) in
            same i (omega (arith, eqb-true (parent_of t i) p e)) u
        go i l u false e = refl

    pub sums_local : (x : ℕ → ℕ) → ((i : ℕ) → i < 64 → x i ≡ leaves_sum t f i) → (i : ℕ) → i < 64 → AddsBelow t f x i
    sums_local x same i u = record {
      leaf = λ e. same i u ∙ leaf_sum f i e;
      other = λ e. same i u ∙ sums_add f i e
          ∙ sym (children_after_lem x (leaves_sum t f) i (λ j l v. same j (omega (arith, v, few_classes t rules))));
    }

    -- of a class whose children are right, and so of every class from m on
    local_sum : (x : ℕ → ℕ) (i : ℕ) → AddsBelow t f x i → ((j : ℕ) → i < j → j ≤ t.count → x j ≡ leaves_sum t f j) → x i ≡ leaves_sum t f i
    local_sum x i adds later = go (is_leaf t i) refl
      where
        go : (b : Bool) → is_leaf t i ≡ b → x i ≡ leaves_sum t f i
        go true e = adds.leaf e ∙ sym (leaf_sum f i e)
        go false e = adds.other e ∙ children_after_lem x (leaves_sum t f) i later ∙ sym (sums_add f i e)

    pub local_from : (x : ℕ → ℕ) (m : ℕ) → ((i : ℕ) → m ≤ i → i ≤ t.count → AddsBelow t f x i)
        → (i : ℕ) → m ≤ i → i ≤ t.count → x i ≡ leaves_sum t f i
    local_from x m adds i l u = down (suc t.count) i (omega arith) l u
      where
        down : (n i : ℕ) → t.count < n + i → m ≤ i → i ≤ t.count → x i ≡ leaves_sum t f i
        down zero i a l u = absurd (omega arith)
        down (suc n) i a l u = local_sum x i (adds i l u) (λ j b v. down n j (omega arith) (omega arith) v)

-- nothing anywhere adds to nothing
pub leaves_none : (t : Tree) (f : ℕ → ℕ) (i : ℕ) → ((j : ℕ) → f j ≡ 0) → leaves_sum t f i ≡ 0
unfolding leaves_sum leaf_below
leaves_none t f i none = sum_zero (leaf_below t f i) t.count (λ j l u. rw (none j) (go (is_leaf t j && at_or_below t i j)))
  where
    go : (b : Bool) → ◌≡◌ {A = ℕ} (cond b 0 0) 0
    go true = refl
    go false = refl

-- every leaf is at or below the root
module _ (t : Tree) (rules : PlanRules t) where
  pub below_the_root : (j : ℕ) → j < 64 → at_or_below t 0 j ≡ true
  below_the_root j u = climb j j (omega arith) u
    where
      climb : (n j : ℕ) → j ≤ n → j < 64 → at_or_below t 0 j ≡ true
      climb zero j a u =
          let z : j ≡ 0 = omega arith in
          rw z (below_self t rules 0 (omega arith))
      climb (suc n) j a u = go (ℕ_discrete j 0) (λ k x y. climb n k x y)
        where
          go : Dec (j ≡ 0) → ((k : ℕ) → k ≤ n → k < 64 → at_or_below t 0 k ≡ true) → at_or_below t 0 j ≡ true
          go (yes z) ih = rw z (below_self t rules 0 (omega arith))
          go (no z) ih =
              let low = parent_below t j rules (omega arith) u in
              below_parent t rules 0 j (omega arith) u (λ e. z (sym e)) ∙ ih (parent_of t j) (omega arith) (omega arith)

  -- sums over leaves that have the same
  pub leaves_same : (f g : ℕ → ℕ) (i : ℕ) → ((j : ℕ) → j < 64 → f j ≡ g j) → leaves_sum t f i ≡ leaves_sum t g i
  unfolding leaves_sum leaf_below
  leaves_same f g i same =
      sum_same (leaf_below t f i) (leaf_below t g i) t.count
      (λ j l u. ap (λ (n : ℕ). cond (is_leaf t j && at_or_below t i j) n 0) (same j (omega (arith, u, few_classes t rules))))

  -- what is at or below a class is at or below its parent too: sums rise on the way up
  pub sum_rises : (f : ℕ → ℕ) (k : ℕ) → 1 ≤ k → leaves_sum t f k ≤ leaves_sum t f (parent_of t k)
  unfolding children_sum
  sum_rises f k l = go (dec_le k t.count)
    where
      go : Dec (k ≤ t.count) → leaves_sum t f k ≤ leaves_sum t f (parent_of t k)
      go (yes v) =
          let p = parent_of t k in
          let part = sum_part (of_child t (leaves_sum t f) p) t.count k l v in
          omega (arith, sums_add t rules f p (parent_no_leaf t k rules (class_in_lem t k l v)), child_own t (leaves_sum t f) k, part)
      go (no v) = let none = past_sum t rules f k (omega (arith, v)) in omega (arith, none)

  -- so the root's sum is at least 1 exactly when f is, at some leaf
  pub root_some : (f : ℕ → ℕ) (j : ℕ) → is_leaf t j ≡ true → f j ≤ leaves_sum t f 0
  unfolding leaves_sum leaf_below
  root_some f j leaf =
      let part = sum_part (leaf_below t f 0) t.count j (leaf_least t rules j leaf) (leaf_known t rules j leaf) in
      rw (leaf, below_the_root j (leaf_number t j rules leaf)) at part

  pub root_none : (f : ℕ → ℕ) → ((j : ℕ) → is_leaf t j ≡ true → f j ≡ 0) → leaves_sum t f 0 ≡ 0
  unfolding leaves_sum leaf_below
  root_none f none = sum_zero (leaf_below t f 0) t.count (λ j l u. go j (is_leaf t j) refl (at_or_below t 0 j))
    where
      go : (j : ℕ) (a : Bool) → is_leaf t j ≡ a → (b : Bool) → cond (is_leaf t j && b) (f j) 0 ≡ 0
      go j true leaf true = rw leaf (none j leaf)
      go j true leaf false = rw leaf refl
      go j false leaf b = rw leaf refl

  -- the root's sum is that of all numbers, where only leaves have any
  pub root_all : (f : ℕ → ℕ) → ((i : ℕ) → i < 64 → is_leaf t i ≡ false → f i ≡ 0) → leaves_sum t f 0 ≡ sum_to f 63
  unfolding leaves_sum leaf_below
  root_all f none =
      sum_same (leaf_below t f 0) f t.count (λ j l u. go j (omega (arith, u, few_classes t rules)) (is_leaf t j) refl)
      ∙ sym (sum_longer f t.count 63 (few_classes t rules)
      (λ k a b. none k (omega arith) ((rules.unset.at k (omega arith)).past (class_past t k a)).leaf))
    where
      go : (j : ℕ) → j < 64 → (b : Bool) → is_leaf t j ≡ b → cond (is_leaf t j && at_or_below t 0 j) (f j) 0 ≡ f j
      go j u true leaf = rw (leaf, below_the_root j u) refl
      go j u false leaf = rw leaf (sym (none j u leaf))

  -- a sum over leaves of which none is above m
  pub sum_most : (f : ℕ → ℕ) (m i : ℕ) → ((j : ℕ) → is_leaf t j ≡ true → f j ≤ m) → leaves_sum t f i ≤ t.count * m
  unfolding leaves_sum leaf_below
  sum_most f m i most = sum_bound (leaf_below t f i) m t.count (λ j l u. go j (is_leaf t j) refl (at_or_below t i j))
    where
      go : (j : ℕ) (a : Bool) → is_leaf t j ≡ a → (b : Bool) → cond (is_leaf t j && b) (f j) 0 ≤ m
      go j true leaf true = rw leaf (most j leaf)
      go j true leaf false = rw leaf zero-le
      go j false leaf b = rw leaf zero-le

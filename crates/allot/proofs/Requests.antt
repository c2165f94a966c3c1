-- Laws of what classes request (R70): the request of the root or an inner class is what its children's add to, and one pass from the
-- highest class down finds it.
use mathlib.Core.Bool.{Bool, true, false, cond, ◌&&◌}
use mathlib.Core.List.{List}
use mathlib.Core.Path.{◌≡◌, refl, sym, ap, ◌∙◌}
use Prim.Native.Nat.{ℕ, ◌+◌, ◌-◌, ◌*◌, ◌≤◌, ◌<◌, zero-le}
use native.Mathlib.Decide.{dec_le, dec_lt, ℕ_discrete}
use native.Mathlib.Omega.{arith}
use lib.Dec.{eqb, ltb}
use lib.ListN.{length, set, replicate, length-set, length-replicate}
use lib.Seq.{get_or-set_same, get_or-set_other}
use borrow.Author.Tests.{eqb-true, lt-ltb, le-ltb, ltb-false}
use Rattle.tree.specs.declared.Tree.{Tree}
use Rattle.tree.specs.Class.{parent_of, is_class, is_leaf, is_child, of_child, children_sum}
use Rattle.tree.specs.Below.{at_or_below, leaf_below, leaves_sum}
use Rattle.tree.specs.Rules.{PlanRules}
use Rattle.tree.specs.Sum.{sum_to}
use Rattle.tree.proofs.Classes.{both_true, class_in_lem, class_range, child_own, child_other}
use Rattle.tree.proofs.Rules.{few_classes, parent_lower}
use Rattle.tree.proofs.Leaves.{root_no_leaf, leaf_sum, sums_add}
use Rattle.tree.proofs.Sums.{sum_same, sum_zero, sum_change, sum_bound}
use Rattle.allot.specs.Request.{entry, request_of}
use Rattle.allot.specs.Steps.{RequestsInRange, Requested, Adding}
use Rattle.allot.proofs.Fair.{children_same}
use Rattle.allot.proofs.Settling.{none_at}

module _ (t : Tree) (rules : PlanRules t) (table : List ℕ) where
  -- what a class requests is the sum of its leaves, of a leaf too: it is the only one at or below itself
  pub request_sum : (i : ℕ) → request_of t table i ≡ leaves_sum t (entry table) i
  unfolding request_of
  request_sum i = go (is_leaf t i) refl
    where
      go : (b : Bool) → is_leaf t i ≡ b → cond b (entry table i) (leaves_sum t (entry table) i) ≡ leaves_sum t (entry table) i
      go true leaf = sym (leaf_sum t rules (entry table) i leaf)
      go false leaf = refl

  -- the request of the root or an inner class is what its children's add to
  pub requests_add : (p : ℕ) → is_leaf t p ≡ false → request_of t table p ≡ children_sum t (request_of t table) p
  requests_add p above =
      request_sum p ∙ sums_add t rules (entry table) p above
      ∙ children_same t (leaves_sum t (entry table)) (request_of t table) p (λ i c. sym (request_sum i))

-- ---- one pass from the highest class down

-- what the children of class k above class n add to
unfoldable pub rest_of : Tree → List ℕ → ℕ → ℕ → ℕ → ℕ
rest_of t table n k j = cond (ltb n j) (of_child t (request_of t table) k j) 0

-- the classes above n are done: each has its request, and the others what their children among those add to
pub record Added (t : Tree) (table : List ℕ) (n : ℕ) (r : List ℕ) : Type 0 where
  pub few : t.count ≤ 63
  pub within : n ≤ t.count
  pub done : (k : ℕ) → n < k → k ≤ t.count → entry r k ≡ request_of t table k
  pub rest : (k : ℕ) → k ≤ n → entry r k ≡ sum_to (rest_of t table n k) t.count
  pub past : (k : ℕ) → t.count < k → entry r k ≡ 0
  pub entries : length r ≡ 64

-- a leaf requests its entry
pub leaf_requests : (t : Tree) (table : List ℕ) (i : ℕ) → is_leaf t i ≡ true → request_of t table i ≡ entry table i
unfolding request_of
leaf_requests t table i leaf = rw leaf refl

module _ (t : Tree) (table : List ℕ) (range : RequestsInRange t table) where
  as_children : (p : ℕ) → sum_to (of_child t (request_of t table) p) t.count ≡ children_sum t (request_of t table) p
  unfolding children_sum
  as_children p = refl

  rules : PlanRules t
  rules = range.rules

  -- no request is above 63 × 1,000,000,000
  pub request_small : (i : ℕ) → i ≤ t.count → request_of t table i ≤ 63_000_000_000
  unfolding leaves_sum leaf_below
  request_small i u =
      let few = few_classes t rules in
      omega (
        arith,
        request_sum t rules table i,
        sum_bound (leaf_below t (entry table) i) 1_000_000_000 t.count
            (λ j l v. go j (class_in_lem t j l v) (is_leaf t j && at_or_below t i j) refl),
      )
    where
      go : (j : ℕ) → is_class t j ≡ true → (b : Bool) → (is_leaf t j && at_or_below t i j) ≡ b → cond b (entry table j) 0 ≤ 1_000_000_000
      go j is true e = range.leaves j is (both_true (is_leaf t j) (at_or_below t i j) e).0
      go j is false e = zero-le

  pub none_added : (r : List ℕ) → r ≡ replicate 64 0 → Added t table t.count r
  unfolding rest_of
  none_added r e = record {
    few = few_classes t rules;
    within = omega arith;
    done = λ k a b. absurd (omega arith);
    rest = λ k u. zeros k ∙ sym (sum_zero (rest_of t table t.count k) t.count (λ j l v. rw (le-ltb t.count j v) refl));
    past = λ k u. zeros k;
    entries = ap length e ∙ length-replicate {A = ℕ} 64 0;
  }
    where
      zeros : (k : ℕ) → entry r k ≡ 0
      zeros k = ap (λ (xs : List ℕ). entry xs k) e ∙ none_at k

  module _ (i : ℕ) (r : List ℕ) (l : 1 ≤ i) (a : Added t table i r) where
    is : is_class t i ≡ true
    is = class_in_lem t i l a.within

    low : parent_of t i < i
    low = parent_lower t i rules is

    -- every child of class i is done
    all_done : (j : ℕ) → 1 ≤ j → j ≤ t.count → rest_of t table i i j ≡ of_child t (request_of t table) i j
    unfolding rest_of of_child is_child
    all_done j b v = go (is_child t i j) refl (ltb i j) refl
      where
        go : (x : Bool) → eqb (parent_of t j) i ≡ x → (y : Bool) → ltb i j ≡ y
            → cond y (cond x (request_of t table j) 0) 0 ≡ cond x (request_of t table j) 0
        go true e true f = refl
        go true e false f =
            absurd (omega (arith, eqb-true (parent_of t j) i e, ltb-false i j f, parent_lower t j rules (class_in_lem t j b v)))
        go false e true f = refl
        go false e false f = refl

    -- so class i's own request is known
    pub own_is : cond (is_leaf t i) (entry table i) (entry r i) ≡ request_of t table i
    own_is = go (is_leaf t i) refl
      where
        go : (b : Bool) → is_leaf t i ≡ b → cond b (entry table i) (entry r i) ≡ request_of t table i
        go true leaf = sym (leaf_requests t table i leaf)
        go false leaf =
            a.rest i (omega arith)
            ∙ sum_same (rest_of t table i i) (of_child t (request_of t table) i) t.count all_done
            ∙ as_children i
            ∙ sym (requests_add t rules table i leaf)

    -- what the other classes have by now fits a number
    pub rest_small : (k : ℕ) → k ≤ i → entry r k ≤ 63 * 63_000_000_000
    unfolding rest_of of_child
    rest_small k u =
        let few = a.few in
        omega (arith, a.rest k u, sum_bound (rest_of t table i k) 63_000_000_000 t.count (λ j l v. go j v (ltb i j) (is_child t k j)))
      where
        go : (j : ℕ) → j ≤ t.count → (x y : Bool) → cond x (cond y (request_of t table j) 0) 0 ≤ 63_000_000_000
        go j v true true = request_small j v
        go j v true false = zero-le
        go j v false y = zero-le

    -- class i is done, and adds itself to its parent
    module _ (own : ℕ) (e : own ≡ request_of t table i) where
      after : List ℕ
      after = set (set r i own) (parent_of t i) (entry (set r i own) (parent_of t i) + own)

      at_i : entry after i ≡ own
      unfolding after
      at_i =
          get_or-set_other (set r i own) (parent_of t i) i _ 0 (λ z. omega (arith, low))
          ∙ get_or-set_same r i own 0 (omega (arith, a.entries, a.few, a.within))

      at_parent : entry after (parent_of t i) ≡ entry r (parent_of t i) + own
      unfolding after
      at_parent =
          get_or-set_same (set r i own) (parent_of t i) _ 0 (omega (arith, length-set r i own, a.entries, a.few, a.within, low))
          ∙ ap (λ (x : ℕ). x + own) (get_or-set_other r i (parent_of t i) own 0 (λ z. omega (arith, low)))

      at_other : (k : ℕ) → (k ≡ i → ⊥) → (k ≡ parent_of t i → ⊥) → entry after k ≡ entry r k
      unfolding after
      at_other k ne np = get_or-set_other (set r i own) (parent_of t i) k _ 0 np ∙ get_or-set_other r i k own 0 ne

      -- one child more
      more : (k : ℕ)
          → sum_to (rest_of t table (i - 1) k) t.count ≡ sum_to (rest_of t table i k) t.count + of_child t (request_of t table) k i
      unfolding rest_of
      more k =
          omega (
            arith,
            sum_change (rest_of t table i k) (rest_of t table (i - 1) k) t.count i l a.within (λ j ne. go j ne (dec_lt i j)),
            here,
            there,
          )
        where
          here : rest_of t table i k i ≡ 0
          here = rw (le-ltb i i (omega arith)) refl

          there : rest_of t table (i - 1) k i ≡ of_child t (request_of t table) k i
          there = rw (lt-ltb (i - 1) i (omega arith)) refl

          go : (j : ℕ) → (j ≡ i → ⊥) → Dec (i < j) → rest_of t table i k j ≡ rest_of t table (i - 1) k j
          go j ne (yes h) = rw (lt-ltb i j h, lt-ltb (i - 1) j (omega arith)) refl
          go j ne (no h) = rw (le-ltb i j (omega arith), le-ltb (i - 1) j (omega arith)) refl

      pub added_more : Added t table (i - 1) (set (set r i own) (parent_of t i) (entry (set r i own) (parent_of t i) + own))
      unfolding after
      added_more = record {
        few = a.few;
        within = omega (arith, a.within);
        done = λ k x y. done k x y (ℕ_discrete k i);
        rest = λ k x. rest k x (ℕ_discrete k (parent_of t i));
        past = λ k x. at_other k (λ z. omega (arith, a.within)) (λ z. omega (arith, a.within, low)) ∙ a.past k x;
        entries = length-set (set r i own) (parent_of t i) _ ∙ length-set r i own ∙ a.entries;
      }
        where
          done : (k : ℕ) → i - 1 < k → k ≤ t.count → Dec (k ≡ i) → entry after k ≡ request_of t table k
          done k x y (yes z) = rw z (at_i ∙ e)
          done k x y (no z) = at_other k z (λ q. omega (arith, low)) ∙ a.done k (omega arith) y

          rest : (k : ℕ) → k ≤ i - 1 → Dec (k ≡ parent_of t i) → entry after k ≡ sum_to (rest_of t table (i - 1) k) t.count
          rest k x (yes z) =
              let had = a.rest (parent_of t i) (omega (arith, low)) in
              rw z (at_parent ∙ omega (arith, had, more (parent_of t i), child_own t (request_of t table) i, e))
          rest k x (no z) =
              let other = child_other t (request_of t table) i k (λ q. z (sym q)) in
              at_other k (λ q. omega arith) z ∙ omega (arith, a.rest k (omega arith), more k, other)

  -- when all classes are done, the root has its request too
  pub all_added : (r : List ℕ) → Added t table 0 r → Requested t table r
  unfolding rest_of
  all_added r a = record {
    each = λ k u. go k u (ℕ_discrete k 0);
    past = a.past;
    entries = a.entries;
  }
    where
      go : (k : ℕ) → k ≤ t.count → Dec (k ≡ 0) → entry r k ≡ request_of t table k
      go k u (yes z) =
          rw z
          (a.rest 0 (omega arith)
          ∙ sum_same (rest_of t table 0 0) (of_child t (request_of t table) 0) t.count (λ j l v. rw (lt-ltb 0 j l) refl)
          ∙ as_children 0
          ∙ sym (requests_add t rules table 0 (root_no_leaf t rules)))
      go k u (no z) = a.done k (omega arith) u

  -- the requests of all classes add up
  pub requested_adding : (r : List ℕ) → Requested t table r → Adding t r
  requested_adding r q = record {
    rules = rules;
    small = λ i. small i (dec_le i t.count);
    sums = λ p u above.
        q.each p u
        ∙ requests_add t rules table p above
        ∙ children_same t (request_of t table) (entry r) p (λ i c. sym (q.each i (class_range t i c.class).1));
  }
    where
      small : (i : ℕ) → Dec (i ≤ t.count) → entry r i ≤ 63_000_000_000
      small i (yes u) = omega (arith, q.each i u, request_small i u)
      small i (no u) = omega (arith, q.past i (omega arith))

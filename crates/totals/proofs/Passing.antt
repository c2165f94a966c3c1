-- The pass that works a table out, from the highest class down: when the turn of an inner class comes, its children count what they are to
-- count. Demand 2.
use mathlib.Core.Bool.{Bool, true, false, cond, ◌&&◌}
use mathlib.Core.List.{List}
use mathlib.Core.Path.{◌≡◌, refl, sym, ap, ◌∙◌}
use Prim.Native.Nat.{ℕ, ◌+◌, ◌-◌, ◌*◌, ◌^◌, ◌≤◌, ◌<◌}
use native.Mathlib.Decide.{ℕ_discrete}
use native.Mathlib.Omega.{arith}
use lib.Pow.{pow_pos}
use lib.ListN.{length, get_or, set, length-set}
use lib.Seq.{get_or-set_same, get_or-set_other}
use borrow.Author.Tests.{eqb-true}
use Rattle.checks.proofs.Laws.{not_true_and_false}
use Rattle.sets.specs.Set.{has, without}
use Rattle.sets.proofs.Laws.{has_without_same, has_without_other, has_empty}
use Rattle.tree.specs.declared.Tree.{Tree}
use Rattle.tree.specs.Class.{parent_of, is_class, is_leaf, is_inner, is_child, of_child, children_sum}
use Rattle.tree.specs.Below.{leaves_sum}
use Rattle.tree.specs.Rules.{PlanRules}
use Rattle.tree.proofs.Classes.{both_true, class_in_lem, class_past, root_no_class}
use Rattle.tree.proofs.Rules.{few_classes, parent_lower}
use Rattle.tree.proofs.Leaves.{leaf_sum, sums_add, sum_most}
use Rattle.tree.proofs.Sums.{sum_same, sum_change, sum_bound, sum_none, sum_longer}
use Rattle.shape.specs.Shape.{Families}
use Rattle.totals.specs.WorkedOut.{worked_out_at, worked_out, Light, count_in, sum_in, turn_of, Addable}
use Rattle.totals.proofs.WorkingOut.{own_at, inner_at, leaf_not_inner, root_not_inner, other_inner, worked_out_is}

-- ---- what the classes of a set count together

-- what is counted so far, and what is left of the set
pub record Adding (kin : ℕ) (xs : List ℕ) (rest sum : ℕ) : Type 0 where
  pub all : sum + sum_in rest xs ≡ sum_in kin xs
  pub within : (i : ℕ) → has rest i ≡ true → has kin i ≡ true

pub adding_starts : (kin : ℕ) (xs : List ℕ) → Adding kin xs kin 0
adding_starts kin xs = record { all = omega arith; within = λ i h. h }

-- a sum of little numbers is little
sum_few : (kin : ℕ) (xs : List ℕ) → Addable kin xs → sum_in kin xs ≤ 63 * 2 ^ 50
unfolding sum_in
sum_few kin xs add = sum_bound (count_in kin xs) (2 ^ 50) 63 (λ i l u. go i (omega (arith, u)) (has kin i) refl)
  where
    go : (i : ℕ) → i < 64 → (b : Bool) → has kin i ≡ b → cond b (get_or xs i 0) 0 ≤ 2 ^ 50
    go i u true h = omega (arith, add.few i u h)
    go i u false h = omega arith

module _ (kin : ℕ) (xs : List ℕ) (rest sum : ℕ) (add : Adding kin xs rest sum) (i : ℕ) (l : 1 ≤ i) (u : i < 64)
    (is : has rest i ≡ true) where
  less : sum_in rest xs ≡ sum_in (without rest i) xs + get_or xs i 0
  unfolding sum_in
  less =
      let e =
      sum_change (count_in rest xs) (count_in (without rest i) xs) 63 i l (omega (arith, u))
      (λ k ne. ap (λ (b : Bool). cond b (get_or xs k 0) 0) (sym (has_without_other rest i k ne)))
      in
      let f = rw (is, has_without_same rest i) at e in
      omega (arith, f)

  pub adding_fits : Addable kin xs → sum + get_or xs i 0 < 2 ^ 64
  adding_fits few = omega (arith, add.all, less, sum_few kin xs few)

  pub adding_on : Adding kin xs (without rest i) (sum + get_or xs i 0)
  adding_on = record {
    all = omega (arith, add.all, less);
    within = λ k h. add.within k (go k h (ℕ_discrete k i));
  }
    where
      go : (k : ℕ) → has (without rest i) k ≡ true → Dec (k ≡ i) → has rest k ≡ true
      go k h (yes e) = rw e is
      go k h (no e) = sym (has_without_other rest i k e) ∙ h

-- a set loses by it
pub without_less : (s i : ℕ) → has s i ≡ true → without s i < s
unfolding without
without_less s i is = rw is (go (ℕ_discrete s 0))
  where
    go : Dec (s ≡ 0) → s - 2 ^ i < s
    go (yes z) = absurd (not_true_and_false is (ap (λ (n : ℕ). has n i) z ∙ has_empty i))
    go (no z) = omega (arith, pow_pos i)

pub adding_ends : (kin : ℕ) (xs : List ℕ) (rest sum : ℕ) → Adding kin xs rest sum → ((i : ℕ) → i < 64 → has rest i ≡ false)
    → sum ≡ sum_in kin xs
unfolding sum_in
adding_ends kin xs rest sum add none =
    let nothing =
    sum_longer (count_in rest xs) 0 63 (omega arith)
    (λ k l u. ap (λ (b : Bool). cond b (get_or xs k 0) 0) (none k (omega (arith, u))))
    in
    omega (arith, add.all, nothing, sum_none (count_in rest xs))

-- ---- the pass

module _ (t : Tree) (rules : PlanRules t) (xs : List ℕ) where
  -- what a class counts when the table is worked out
  abbrev x : ℕ → ℕ
  x = leaves_sum t (λ j. get_or xs j 0)

  class_worked_out : (j : ℕ) → is_class t j ≡ true → worked_out_at t xs j ≡ x j
  class_worked_out j is = go (is_leaf t j) refl
    where
      go : (b : Bool) → is_leaf t j ≡ b → worked_out_at t xs j ≡ x j
      go true leaf = own_at t xs j (leaf_not_inner t j leaf) ∙ sym (leaf_sum t rules (λ k. get_or xs k 0) j leaf)
      go false off = inner_at t xs j (other_inner t j is off)

-- the classes after n are worked out, and those up to n as they were
pub record Passed (t : Tree) (xs : List ℕ) (n : ℕ) (ys : List ℕ) : Type 0 where
  pub long : length ys ≡ 64
  pub done : (k : ℕ) → n < k → k < 64 → get_or ys k 0 ≡ worked_out_at t xs k
  pub left : (k : ℕ) → k ≤ n → get_or ys k 0 ≡ get_or xs k 0

module _ (t : Tree) (rules : PlanRules t) (xs : List ℕ) where
  pub pass_begins : length xs ≡ 64 → Passed t xs t.count xs
  unfolding is_inner
  pass_begins long = record {
    long = long;
    done = λ k l u. sym (own_at t xs k (rw (class_past t k l) refl));
    left = λ k u. refl;
  }

  module _ (n : ℕ) (ys : List ℕ) (s : Passed t xs n ys) (l : 1 ≤ n) (u : n ≤ t.count) where
    is : is_class t n ≡ true
    is = class_in_lem t n l u

    here : n < 64
    here = omega (arith, u, few_classes t rules)

    -- a leaf stays as it is
    pass_leaf : is_leaf t n ≡ true → Passed t xs (n - 1) ys
    pass_leaf leaf = record {
      long = s.long;
      done = λ k a b. go k a b (ℕ_discrete k n);
      left = λ k a. s.left k (omega (arith, a));
    }
      where
        go : (k : ℕ) → n - 1 < k → k < 64 → Dec (k ≡ n) → get_or ys k 0 ≡ worked_out_at t xs k
        go k a b (yes e) = rw e (s.left n (omega arith) ∙ sym (own_at t xs n (leaf_not_inner t n leaf)))
        go k a b (no e) = s.done k (omega (arith, a, e)) b

    module _ (children : List ℕ) (kin : Families t children) where
      -- a child comes after it, and is worked out
      child_of : (i : ℕ) → i < 64 → has (get_or children n 0) i ≡ true → (is_class t i ≡ true) × (parent_of t i ≡ n)
      unfolding is_child
      child_of i v h =
          let both = both_true (is_class t i) (is_child t n i) (sym (kin.child n i here v) ∙ h) in
          (both.0, eqb-true (parent_of t i) n both.1)

      child_counts : (i : ℕ) → i < 64 → has (get_or children n 0) i ≡ true → get_or ys i 0 ≡ x t rules xs i
      child_counts i v h =
          let c = child_of i v h in
          let low = parent_lower t i rules c.0 in
          s.done i (omega (arith, low, c.1)) v ∙ class_worked_out t rules xs i c.0

      pub pass_addable : Light t xs → Addable (get_or children n 0) ys
      pass_addable light = record {
        few = λ i v h.
            let most = sum_most t rules (λ k. get_or xs k 0) (2 ^ 33) i (λ j leaf. omega (arith, light.few j leaf)) in
            omega (arith, child_counts i v h, most, few_classes t rules);
      }

      pub pass_root : has (get_or children n 0) 0 ≡ false
      pass_root = kin.child n 0 here (omega arith) ∙ ap (λ (b : Bool). b && is_child t n 0) (root_no_class t)

      -- so they count together what it is to count
      counts : is_leaf t n ≡ false → sum_in (get_or children n 0) ys ≡ x t rules xs n
      unfolding sum_in children_sum of_child
      counts off =
          sum_same (count_in (get_or children n 0) ys) (of_all) 63 (λ i a b. each i a (omega (arith, b)) (has (get_or children n 0) i) refl)
          ∙ sum_longer of_all t.count 63 (few_classes t rules) (λ i a b. past i a)
          ∙ sum_same of_all (of_child t (x t rules xs) n) t.count (λ i a b. ap (λ (c : Bool). cond (c && is_child t n i) (x t rules xs i) 0)
          (class_in_lem t i a b))
          ∙ sym (sums_add t rules (λ k. get_or xs k 0) n off)
        where
          of_all : ℕ → ℕ
          of_all i = cond (is_class t i && is_child t n i) (x t rules xs i) 0

          each : (i : ℕ) → 1 ≤ i → i < 64 → (b : Bool) → has (get_or children n 0) i ≡ b → cond b (get_or ys i 0) 0 ≡ of_all i
          each i a v true h = child_counts i v h ∙ sym (ap (λ (c : Bool). cond c (x t rules xs i) 0) (sym (kin.child n i here v) ∙ h))
          each i a v false h = sym (ap (λ (c : Bool). cond c (x t rules xs i) 0) (sym (kin.child n i here v) ∙ h))

          past : (i : ℕ) → t.count < i → of_all i ≡ 0
          past i a = ap (λ (c : Bool). cond (c && is_child t n i) (x t rules xs i) 0) (class_past t i a)

      pass_inner : is_leaf t n ≡ false → Passed t xs (n - 1) (set ys n (sum_in (get_or children n 0) ys))
      pass_inner off = record {
        long = length-set ys n (sum_in (get_or children n 0) ys) ∙ s.long;
        done = λ k a b. go k a b (ℕ_discrete k n);
        left = λ k a.
            get_or-set_other ys n k (sum_in (get_or children n 0) ys) 0 (λ e. omega (arith, e, a, l)) ∙ s.left k (omega (arith, a));
      }
        where
          go : (k : ℕ) → n - 1 < k → k < 64 → Dec (k ≡ n)
              → get_or (set ys n (sum_in (get_or children n 0) ys)) k 0 ≡ worked_out_at t xs k
          go k a b (yes e) =
              rw e
              (get_or-set_same ys n (sum_in (get_or children n 0) ys) 0 (omega (arith, s.long, here)) ∙ counts off
              ∙ sym (class_worked_out t rules xs n is))
          go k a b (no e) = get_or-set_other ys n k (sum_in (get_or children n 0) ys) 0 e ∙ s.done k (omega (arith, a, e)) b

      pub pass_turn : (leaf : Bool) → leaf ≡ is_leaf t n → Passed t xs (n - 1) (turn_of leaf n (get_or children n 0) ys)
      pass_turn true e = pass_leaf (sym e)
      pass_turn false e = pass_inner (sym e)

  pub pass_ends : (n : ℕ) (ys : List ℕ) → Passed t xs n ys → n ≡ 0 → ys ≡ worked_out t xs
  pass_ends n ys s z = worked_out_is t xs ys s.long (λ k u. go k u (ℕ_discrete k 0))
    where
      go : (k : ℕ) → k < 64 → Dec (k ≡ 0) → get_or ys k 0 ≡ worked_out_at t xs k
      go k u (yes e) = rw e (s.left 0 (omega arith) ∙ sym (own_at t xs 0 (root_not_inner t)))
      go k u (no e) = s.done k (omega (arith, e, z)) u

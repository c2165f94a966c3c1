-- The plan rules and what the walk from the highest class down decides of each class: a parent is lower, so children come later. Demand 1.
use mathlib.Core.Bool.{Bool, true, false}
use mathlib.Core.Path.{◌≡◌, refl, sym, ap, subst, ◌∙◌}
use Prim.Native.Nat.{ℕ, ◌^◌, ◌≤◌, ◌<◌}
use native.Mathlib.Decide.{dec_le, ℕ_discrete}
use native.Mathlib.Omega.{arith}
use borrow.Author.Tests.{le-ltb, ltb-false, eqb-true, ne_eqb, not-false}
use Rattle.checks.proofs.Laws.{not_true_and_false}
use Rattle.tree.specs.declared.Tree.{Tree}
use Rattle.std.specs.Prelude.{Option, None, Some}
use Rattle.units.specs.declared.Bytes.{Bytes}
use Rattle.tree.specs.Class.{parent_of, weight_of, is_class, is_leaf, is_inner, is_child, of_child, children_sum, children_weight, has_child}
use Rattle.tree.specs.Rules.{too_many, bad_parent, too_heavy, childless, no_class, ClassesPass, UnsetIsZero, PlanRules}
use Rattle.shape.specs.Steps.{NumberUnset, RestUnset, children_after, ClassesObey, Sizes}
use Rattle.tree.specs.Sum.{some_to}
use Rattle.tree.proofs.Classes.{class_in_lem, class_range, class_past, root_no_class, child_own, child_other}
use Rattle.tree.proofs.Rules.{few_classes, lower_parent, weight_range}
use Rattle.tree.proofs.Sums.{sum_zero, sum_part, some_found, some_which}

-- where parents are lower, all that the children of a class weigh comes after it
after_all : (t : Tree) (i : ℕ) → ((k : ℕ) → 1 ≤ k → k ≤ i → bad_parent t k ≡ false) → children_weight t i ≡ children_after t i
unfolding children_weight children_sum
after_all t i rows =
    omega (
      arith,
      sum_zero (of_child t (weight_of t) i) i (λ k l u. child_other t (weight_of t) k i
          (λ e. omega (arith, lower_parent t k (rows k l u)))),
    )

-- a class whose children weigh something has a child
weighs_child : (t : Tree) (i : ℕ) → 1 ≤ children_weight t i → has_child t i ≡ true
unfolding children_weight children_sum has_child of_child
weighs_child t i h = go (some_to (is_child t i) t.count) refl
  where
    none : (k : ℕ) → 1 ≤ k → k ≤ t.count → some_to (is_child t i) t.count ≡ false → of_child t (weight_of t) i k ≡ 0
    none k l u e = at (is_child t i k) refl
      where
        at : (b : Bool) → is_child t i k ≡ b → of_child t (weight_of t) i k ≡ 0
        at true c = absurd (not_true_and_false (some_found (is_child t i) t.count k l u c) e)
        at false c = rw c

    go : (b : Bool) → some_to (is_child t i) t.count ≡ b → some_to (is_child t i) t.count ≡ true
    go true e = e
    go false e = absurd (omega (arith, h, sum_zero (of_child t (weight_of t) i) t.count (λ k l u. none k l u e)))

module _ (t : Tree) (rules : PlanRules t) where
  -- each child weighs something
  child_weighs : (i : ℕ) → has_child t i ≡ true → 1 ≤ children_weight t i
  unfolding has_child children_weight children_sum is_child
  child_weighs i h =
      let w = some_which (is_child t i) t.count h in
      let own : of_child t (weight_of t) i w.0 ≡ weight_of t w.0 = rw (eqb-true (parent_of t w.0) i w.3) at
      (child_own t (weight_of t) w.0) in
      omega (
        arith,
        own,
        sum_part (of_child t (weight_of t) i) t.count w.0 w.1 w.2,
        (weight_range t w.0 (rules.each.weights w.0 (class_in_lem t w.0 w.1 w.2))).0,
      )

  -- nothing is set of the other numbers
  number_unset : (i : ℕ) → i < 64 → is_class t i ≡ false → NumberUnset t i
  number_unset i u none =
      let at = rules.unset.at i u in
      record { nothing = at.past none; longest = at.longest (at.past none).leaf }

  pub rules_rest : RestUnset t
  rules_rest = record { root = number_unset 0 (omega arith) (root_no_class t); past = λ i l u. number_unset i u (class_past t i l) }

  -- by the plan rules each class is right
  pub rules_classes : ClassesObey t
  unfolding too_heavy childless is_inner
  rules_classes = record {
    at = λ i is. record {
      parent = rules.each.parents i is;
      weight = rules.each.weights i is;
      longest = rules.each.longests i is;
      inner = λ f.
          let all = after_all t i (λ k l u. rules.each.parents k (class_in_lem t k l (omega (arith, (class_range t i is).1)))) in
          let heavy : children_weight t i ≤ weight_of t i = ltb-false _ _ (rw (is, f) at (rules.closing.shares i is)) in
          let some : has_child t i ≡ true = not-false _ (rw (is, f) at (rules.closing.children i is)) in
          record {
            unset = (rules.unset.at i (omega (arith, (class_range t i is).1, few_classes t rules))).longest f;
            some = omega (arith, all, child_weighs i some);
            share = omega (arith, all, heavy);
          };
    };
  }

module _ (t : Tree) (rest : RestUnset t) (right : ClassesObey t) where
  all_after : (i : ℕ) → is_class t i ≡ true → children_weight t i ≡ children_after t i
  all_after i is = after_all t i (λ k l u. (right.at k (class_in_lem t k l (omega (arith, (class_range t i is).1)))).parent)

  -- classes that are right break no number
  classes_pass : ClassesPass t
  classes_pass = record {
    parents = λ i is. (right.at i is).parent;
    weights = λ i is. (right.at i is).weight;
    longests = λ i is. (right.at i is).longest;
  }

  classes_childless : (i : ℕ) → is_class t i ≡ true → childless t i ≡ false
  unfolding childless is_inner
  classes_childless i is = go (is_leaf t i) refl
    where
      go : (b : Bool) → is_leaf t i ≡ b → childless t i ≡ false
      go true f = rw (is, f)
      go false f = rw (is, f, weighs_child t i (omega (arith, all_after i is, ((right.at i is).inner f).some)))

  classes_heavy : (i : ℕ) → is_class t i ≡ true → too_heavy t i ≡ false
  unfolding too_heavy is_inner
  classes_heavy i is = go (is_leaf t i) refl
    where
      go : (b : Bool) → is_leaf t i ≡ b → too_heavy t i ≡ false
      go true f = rw (is, f)
      go false f =
          let share : children_weight t i ≤ weight_of t i = omega (arith, all_after i is, ((right.at i is).inner f).share) in
          rw (is, f) (le-ltb _ _ share)

  unset_zero : (i : ℕ) → i < 64 → UnsetIsZero t i
  unset_zero i u = go (is_class t i) refl
    where
      other : is_class t i ≡ false → Dec (i ≤ t.count) → NumberUnset t i
      other none (no l) = rest.past i (omega arith) u
      other none (yes l) = root (ℕ_discrete 0 i)
        where
          root : Dec (0 ≡ i) → NumberUnset t i
          root (yes e) = subst (NumberUnset t) e rest.root
          root (no e) = absurd (not_true_and_false (class_in_lem t i (omega arith) l) none)

      go : (b : Bool) → is_class t i ≡ b → UnsetIsZero t i
      go true is = record { past = λ none. absurd (not_true_and_false is none); longest = λ f. ((right.at i is).inner f).unset }
      go false is = let n = other is (dec_le i t.count) in record { past = λ none. n.nothing; longest = λ f. n.longest }

  pub right_rules : 1 ≤ t.count → t.count ≤ 63 → t.leaves < 2 ^ 64 → PlanRules t
  unfolding too_many no_class
  right_rules some few word = record {
    few = le-ltb _ _ few;
    each = classes_pass;
    closing = record { classes = ne_eqb t.count 0 (λ e. omega arith); children = classes_childless; shares = classes_heavy };
    unset = record { at = unset_zero; word = word };
  }

-- the decision of a tree with its size has one answer
pub plan_size_one_answer : (t : Tree) (r s : Option Bytes) → Sizes t r → Sizes t s → r ≡ s
plan_size_one_answer t None None x y = refl
plan_size_one_answer t None (Some b) x y = absurd (not_true_and_false (x.right.complete (y.right.sound refl)) refl)
plan_size_one_answer t (Some a) None x y = absurd (not_true_and_false (y.right.complete (x.right.sound refl)) refl)
plan_size_one_answer t (Some a) (Some b) x y = ap (λ (n : ℕ). Some (record { 0 = n })) (x.size ∙ sym y.size)

-- What the plan rules say of a class, and the ceiling of the round size. Demands 1 and 3.
use mathlib.Core.Bool.{Bool, true, false, cond}
use mathlib.Core.Path.{◌≡◌, refl}
use Prim.Native.Nat.{ℕ, ◌*◌, ◌≤◌, ◌<◌, zero-le}
use native.Mathlib.Decide.{dec_lt}
use native.Mathlib.Omega.{arith}
use lib.Dec.{leb, ltb}
use borrow.Author.Tests.{ltb-false, leb-false}
use Rattle.checks.proofs.Laws.{not_true_and_false}
use Rattle.sets.proofs.Laws.{has_past}
use Rattle.units.specs.Cost.{cost_of, most_cost}
use Rattle.units.proofs.Laws.{cost_ceiling}
use Rattle.tree.specs.declared.Tree.{Tree}
use Rattle.tree.specs.Class.{parent_of, weight_of, longest_of, is_class, is_leaf}
use Rattle.tree.specs.Rules.{too_many, bad_parent, bad_weight, bad_longest, Light, PlanRules}
use Rattle.tree.specs.Size.{all_weights, all_longest, longest_cost, round_size, most_size}
use Rattle.tree.proofs.Sums.{sum_bound}
use Rattle.tree.proofs.Classes.{neither_true, class_in_lem}

-- 3: at most 63 classes
pub few_classes : (t : Tree) → PlanRules t → t.count ≤ 63
unfolding too_many
few_classes t r = ltb-false 63 t.count r.few

-- a leaf is one of the 64 class numbers
pub leaf_number : (t : Tree) (i : ℕ) → PlanRules t → is_leaf t i ≡ true → i < 64
unfolding is_leaf
leaf_number t i r leaf = go (dec_lt i 64)
  where
    go : Dec (i < 64) → i < 64
    go (yes u) = u
    go (no u) = absurd (not_true_and_false leaf (has_past t.leaves i r.unset.word (omega arith)))

-- 4: the parent is lower, and no leaf
pub lower_parent : (t : Tree) (i : ℕ) → bad_parent t i ≡ false → parent_of t i < i
unfolding bad_parent
lower_parent t i e = leb-false i (parent_of t i) (neither_true (leb i (parent_of t i)) _ e).0

pub parent_lower : (t : Tree) (i : ℕ) → PlanRules t → is_class t i ≡ true → parent_of t i < i
parent_lower t i r h = lower_parent t i (r.each.parents i h)

pub parent_no_leaf : (t : Tree) (i : ℕ) → PlanRules t → is_class t i ≡ true → is_leaf t (parent_of t i) ≡ false
unfolding bad_parent
parent_no_leaf t i r h = (neither_true (leb i (parent_of t i)) _ (r.each.parents i h)).1

-- every class number's parent is lower
pub parent_below : (t : Tree) (i : ℕ) → PlanRules t → 1 ≤ i → i < 64 → parent_of t i < i
parent_below t i rules l u = go (is_class t i) refl
  where
    go : (b : Bool) → is_class t i ≡ b → parent_of t i < i
    go true is = parent_lower t i rules is
    go false is = omega (arith, ((rules.unset.at i u).past is).parent)

-- 5: the weight's range
pub weight_range : (t : Tree) (i : ℕ) → bad_weight t i ≡ false → (1 ≤ weight_of t i) × (weight_of t i ≤ 1_000_000)
unfolding bad_weight
weight_range t i e =
    let h = neither_true (ltb (weight_of t i) 1) (ltb 1_000_000 (weight_of t i)) e in
    (ltb-false (weight_of t i) 1 h.0, ltb-false 1_000_000 (weight_of t i) h.1)

-- 6: the range of a leaf's longest packet
pub longest_range : (t : Tree) (i : ℕ) → bad_longest t i ≡ false → is_leaf t i ≡ true → (1 ≤ longest_of t i) × (longest_of t i ≤ 9_216)
unfolding bad_longest
longest_range t i e leaf =
    let h = neither_true (ltb (longest_of t i) 1) (ltb 9_216 (longest_of t i)) (rw leaf at e) in
    (ltb-false (longest_of t i) 1 h.0, ltb-false 9_216 (longest_of t i) h.1)

-- sums of weights fit
pub rules_light : (t : Tree) → PlanRules t → Light t
rules_light t r = record {
  few = few_classes t r;
  light = λ i h. (weight_range t i (r.each.weights i h)).1;
}

pub longest_cost_bound : (t : Tree) (i : ℕ) → bad_longest t i ≡ false → longest_cost t i ≤ most_cost
unfolding longest_cost
longest_cost_bound t i r = go (is_leaf t i) refl
  where
    go : (b : Bool) → is_leaf t i ≡ b → cond b (cost_of (longest_of t i)) 0 ≤ most_cost
    go true e = cost_ceiling (longest_of t i) (longest_range t i r e).1
    go false e = zero-le

-- the ceiling of Q (R39)
pub weights_ceiling : (t : Tree) → PlanRules t → all_weights t ≤ 63_000_000
unfolding all_weights
weights_ceiling t r =
    let few = few_classes t r in
    let sum = sum_bound (weight_of t) 1_000_000 t.count (λ i l u. (rules_light t r).light i (class_in_lem t i l u)) in
    omega arith

pub longest_ceiling : (t : Tree) → PlanRules t → all_longest t ≤ 63 * most_cost
unfolding all_longest
longest_ceiling t r =
    let few = few_classes t r in
    let sum = sum_bound (longest_cost t) most_cost t.count (λ i l u. longest_cost_bound t i (r.each.longests i (class_in_lem t i l u))) in
    omega arith

pub size_ceiling : (t : Tree) → PlanRules t → round_size t ≤ most_size
unfolding round_size
size_ceiling t r = omega (arith, weights_ceiling t r, longest_ceiling t r)

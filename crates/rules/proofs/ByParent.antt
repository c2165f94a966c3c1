-- What all active classes are due from their parents is what the root and the classes hand down, class by class. Demands 2 and 3.
use mathlib.Core.Bool.{Bool, true, false, cond}
use mathlib.Core.Path.{◌≡◌, refl, ap₂, ◌∙◌}
use Prim.Native.Nat.{ℕ, ◌+◌, ◌*◌}
use native.Mathlib.Nat.{zero-mul}
use native.Mathlib.Omega.{arith}
use lib.Dec.{eqb}
use borrow.Author.Tests.{eqb-true}
use Rattle.sets.specs.Set.{has}
use Rattle.tree.specs.declared.Tree.{Tree}
use Rattle.tree.specs.Class.{parent_of, weight_of, is_child, of_child, children_sum}
use Rattle.tree.specs.Rules.{PlanRules}
use Rattle.tree.specs.Sum.{sum_to}
use Rattle.tree.proofs.ByParent.{by_parent}
use Rattle.tree.proofs.Sums.{sum_same, sum_times}
use Rattle.rules.specs.Active.{active_weight, weight_sum}

module _ (t : Tree) (active : ℕ) (q : ℕ → ℕ) where
  -- what class i is due from its parent where it is active
  due : ℕ → ℕ
  due i = cond (has active i) (weight_of t i * q (parent_of t i)) 0

  -- the children of class p are due what it hands down
  handed : (p : ℕ) → sum_to (λ i. cond (is_child t p i) (due i) 0) t.count ≡ weight_sum t active p * q p
  unfolding due weight_sum children_sum of_child active_weight is_child
  handed p =
      sum_same (λ i. cond (is_child t p i) (due i) 0) (λ i. of_child t (active_weight t active) p i * q p) t.count
      (λ i l u. go i (is_child t p i) refl (has active i))
      ∙ sum_times (of_child t (active_weight t active) p) (q p) t.count
    where
      go : (i : ℕ) (a : Bool) → eqb (parent_of t i) p ≡ a → (b : Bool)
          → cond a (cond b (weight_of t i * q (parent_of t i)) 0) 0 ≡ cond a (cond b (weight_of t i) 0) 0 * q p
      go i true e true = rw (eqb-true (parent_of t i) p e) refl
      go i true e false = omega (arith, zero-mul (q p))
      go i false e b = omega (arith, zero-mul (q p))

-- all classes together
pub sum_by_parent : (t : Tree) (active : ℕ) (q : ℕ → ℕ) → PlanRules t
    → sum_to (λ i. cond (has active i) (weight_of t i * q (parent_of t i)) 0) t.count
    ≡ weight_sum t active 0 * q 0 + sum_to (λ p. weight_sum t active p * q p) t.count
unfolding due
sum_by_parent t active q rules =
    by_parent t (due t active q) rules
    ∙ ap₂ ◌+◌ (handed t active q 0)
    (sum_same (λ p. sum_to (λ i. cond (is_child t p i) (due t active q i) 0) t.count) (λ p. weight_sum t active p * q p) t.count
    (λ p l u. handed t active q p))

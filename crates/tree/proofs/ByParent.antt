-- A sum over all classes is the sum, over the root and all classes, of what their children add to. Demands 2 and 3.
use mathlib.Core.Bool.{cond}
use mathlib.Core.Path.{◌≡◌, refl, sym, ap, ◌∙◌}
use Prim.Native.Nat.{ℕ, ◌+◌, ◌≤◌, ◌<◌}
use native.Mathlib.Decide.{ℕ_discrete}
use native.Mathlib.Omega.{arith}
use borrow.Author.Tests.{eq-eqb, ne_eqb}
use Rattle.tree.specs.declared.Tree.{Tree}
use Rattle.tree.specs.Class.{parent_of, is_child}
use Rattle.tree.specs.Rules.{PlanRules}
use Rattle.tree.specs.Sum.{sum_to}
use Rattle.tree.proofs.Classes.{class_in_lem}
use Rattle.tree.proofs.Rules.{parent_lower}
use Rattle.tree.proofs.Sums.{sum_same, sum_zero, sum_one, sum_add, sum_swap}

module _ (t : Tree) (x : ℕ → ℕ) (rules : PlanRules t) where
  -- what class i adds to class p's children
  adds : ℕ → ℕ → ℕ
  adds p i = cond (is_child t p i) (x i) 0

  adds_own : (i : ℕ) → adds (parent_of t i) i ≡ x i
  unfolding adds is_child
  adds_own i = rw (eq-eqb (parent_of t i) (parent_of t i) refl) refl

  adds_other : (p i : ℕ) → (parent_of t i ≡ p → ⊥) → adds p i ≡ 0
  unfolding adds is_child
  adds_other p i ne = rw (ne_eqb (parent_of t i) p ne) refl

  -- each class adds to its one parent, the root or a class
  one_parent : (i : ℕ) → 1 ≤ i → i ≤ t.count → x i ≡ adds 0 i + sum_to (λ p. adds p i) t.count
  one_parent i l u = go (ℕ_discrete (parent_of t i) 0)
    where
      low : parent_of t i < i
      low = parent_lower t i rules (class_in_lem t i l u)

      go : Dec (parent_of t i ≡ 0) → x i ≡ adds 0 i + sum_to (λ p. adds p i) t.count
      go (yes e) =
          let own : adds 0 i ≡ x i = ap (λ (p : ℕ). adds p i) (sym e) ∙ adds_own i in
          omega (arith, own, sum_zero (λ p. adds p i) t.count (λ p a b. adds_other p i (λ z. omega arith)))
      go (no e) =
          let rest =
          sum_one (λ p. adds p i) t.count (parent_of t i) (omega arith) (omega (arith, low))
          (λ p a b ne. adds_other p i (λ z. ne (sym z)))
          in
          omega (arith, rest, adds_own i, adds_other 0 i e)

  pub by_parent : sum_to x t.count
      ≡ sum_to (λ i. cond (is_child t 0 i) (x i) 0) t.count + sum_to (λ p. sum_to (λ i. cond (is_child t p i) (x i) 0) t.count) t.count
  unfolding adds
  by_parent =
      sum_same x (λ i. adds 0 i + sum_to (λ p. adds p i) t.count) t.count one_parent
      ∙ sum_add (adds 0) (λ i. sum_to (λ p. adds p i) t.count) t.count
      ∙ ap (λ (n : ℕ). sum_to (adds 0) t.count + n) (sym (sum_swap adds t.count t.count))

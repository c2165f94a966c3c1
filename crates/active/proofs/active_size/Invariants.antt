-- `active::active_size` meets its contract: class by class upward, each active one adds its weight, and a leaf what its longest packet
-- costs.
use mathlib.Core.Bool.{cond}
use mathlib.Core.Path.{◌≡◌}
use Prim.Native.Nat.{ℕ, ◌+◌, ◌-◌, ◌*◌, ◌≤◌}
use native.Mathlib.Omega.{arith}
use Rattle.sets.specs.Set.{has}
use Rattle.units.specs.Cost.{cost_of, most_cost}
use Rattle.tree.specs.declared.Tree.{Tree}
use Rattle.tree.specs.Class.{weight_of, longest_of, is_leaf}
use Rattle.tree.specs.Rules.{PlanRules}
use Rattle.tree.specs.Size.{longest_cost, all_weights, all_longest}
use Rattle.tree.specs.Sum.{sum_to}
use Rattle.tree.proofs.Rules.{weights_ceiling, longest_ceiling}
use Rattle.tree.proofs.Sums.{sum_step, sum_grows}
use Rattle.shape.specs.Shape.{tree_in}
use Rattle.rules.specs.Sizes.{if_active}
use Rattle.rules.proofs.Sizes.{active_part}
use borrow.Author.Rules.{rules}
use Rattle.active.proofs.active_size.Given as goal

module _ (t : Tree) (active : ℕ) where
  -- what the classes 1 to n add
  abbrev pub weighs : ℕ → ℕ
  weighs n = sum_to (if_active active (weight_of t)) n

  abbrev pub costs : ℕ → ℕ
  costs n = sum_to (if_active active (longest_cost t)) n

  pub weighs_more : (i : ℕ) → 1 ≤ i → weighs (i + 1 - 1) ≡ weighs (i - 1) + cond (has active i) (weight_of t i) 0
  unfolding if_active
  weighs_more i l = sum_step _ i l

  pub costs_more : (i : ℕ) → 1 ≤ i → costs (i + 1 - 1) ≡ costs (i - 1) + cond (has active i) (cond (has t.leaves i) (cost_of (longest_of t i))
      0) 0
  unfolding if_active longest_cost is_leaf
  costs_more i l = sum_step _ i l

  pub weighs_most : PlanRules t → (n : ℕ) → n ≤ t.count → weighs n ≤ 63_000_000
  unfolding all_weights
  weighs_most rules n u =
      omega (
        arith,
        sum_grows (if_active active (weight_of t)) n t.count u,
        active_part active (weight_of t) t.count,
        weights_ceiling t rules,
      )

  pub costs_most : PlanRules t → (n : ℕ) → n ≤ t.count → costs n ≤ 63 * most_cost
  unfolding all_longest
  costs_most rules n u =
      omega (
        arith,
        sum_grows (if_active active (longest_cost t)) n t.count u,
        active_part active (longest_cost t) t.count,
        longest_ceiling t rules,
      )

abbrev pub invariant-loop-i : goal.invariant-loop-i
invariant-loop-i l =
    let t = tree_in l.shape in
    (1 ≤ l.i) × (l.i ≤ t.count + 1) × (l.weights.0 ≡ weighs t l.active (l.i - 1)) × (l.packets.0 ≡ costs t l.active (l.i - 1))

-- Laws of the weight sums of active children.
use mathlib.Core.Bool.{Bool, true, false, cond}
use mathlib.Core.List.{List}
use mathlib.Core.Path.{◌≡◌, refl, sym, ap, ◌∙◌}
use Prim.Native.Nat.{ℕ, ◌+◌, ◌-◌, ◌^◌, ◌≤◌, ◌<◌, zero-le}
use native.Mathlib.Omega.{arith}
use lib.Dec.{eqb}
use lib.ListN.{get_or, set, replicate}
use lib.Seq.{ext_get_or}
use borrow.Author.Tests.{eqb-true}
use Rattle.sets.specs.Set.{has}
use Rattle.units.specs.declared.Weight.{Weight}
use Rattle.tree.specs.declared.Tree.{Tree}
use Rattle.tree.specs.Class.{no_weight, parent_of, weight_of, is_class, is_child, of_child, children_sum}
use Rattle.tree.specs.Rules.{Light}
use Rattle.tree.specs.Sum.{sum_to, table}
use Rattle.tree.proofs.Classes.{class_in_lem, class_range, child_light, child_own, child_other}
use Rattle.tree.proofs.Sums.{sum_none, sum_bound, sum_zero, sum_part}
use Rattle.tree.proofs.Down.{SumsAbove, sums_start, sums_more}
use Rattle.tree.proofs.Tables.{table_length, table_at, table_same}
use Rattle.rules.specs.Active.{active_weight, weight_sum, weight_sums}

-- an active class adds its weight, any other nothing
active_is : (t : Tree) (active i : ℕ) → active_weight t active i ≡ cond (has active i) (weight_of t i) 0
unfolding active_weight
active_is t active i = refl

-- no term is above the heaviest weight
pub active_light : (t : Tree) (active p i : ℕ) → Light t → 1 ≤ i → i ≤ t.count → of_child t (active_weight t active) p i ≤ 1_000_000
unfolding active_weight
active_light t active p i l a b = child_light t (active_weight t active) p i 1_000_000 (go (has active i))
  where
    go : (x : Bool) → cond x (weight_of t i) 0 ≤ 1_000_000
    go true = l.light i (class_in_lem t i a b)
    go false = zero-le

-- the weight of an active class is within its parent's sum
pub within_sum : (t : Tree) (active i : ℕ) → is_class t i ≡ true → has active i ≡ true → weight_of t i ≤ weight_sum t active (parent_of t i)
unfolding weight_sum children_sum
within_sum t active i is a =
    let r = class_range t i is in
    let here : of_child t (active_weight t active) (parent_of t i) i ≡ weight_of t i =
    child_own t (active_weight t active) i ∙ active_is t active i ∙ rw a in
    omega (arith, here, sum_part (of_child t (active_weight t active) (parent_of t i)) t.count i r.0 r.1)

-- a class without an active child has a sum of 0
pub sum_without : (t : Tree) (active p : ℕ) → ((i : ℕ) → is_class t i ≡ true → parent_of t i ≡ p → has active i ≡ true → ⊥)
    → weight_sum t active p ≡ 0
unfolding weight_sum children_sum of_child active_weight is_child
sum_without t active p none =
    sum_zero (of_child t (active_weight t active) p) t.count
    (λ i l u. go i (class_in_lem t i l u) (eqb (parent_of t i) p) refl (has active i) refl)
  where
    go : (i : ℕ) → is_class t i ≡ true → (a : Bool) → eqb (parent_of t i) p ≡ a → (b : Bool) → has active i ≡ b
        → cond a (cond b (weight_of t i) 0) 0 ≡ 0
    go i is true e true h = absurd (none i is (eqb-true (parent_of t i) p e) h)
    go i is true e false h = refl
    go i is false e b h = refl

-- ---- all weight sums in one pass from the highest class down

-- what the classes above class k add to the weight sum of class p
abbrev pub sum_above : Tree → ℕ → ℕ → ℕ → Weight
sum_above t active k p = record {
  0 = sum_to (of_child t (active_weight t active) p) t.count - sum_to (of_child t (active_weight t active) p) k;
}

module _ (t : Tree) (active : ℕ) where
  -- the table of them is the sums of a pass downward, and the only one
  table_sums : (k : ℕ) → SumsAbove t.count 64 (of_child t (active_weight t active)) (table (sum_above t active k) 64) k
  table_sums k = record {
    many = table_length (sum_above t active k) 64;
    at = λ p u. ap (λ (w : Weight). w.0) (table_at (sum_above t active k) no_weight 64 p u);
  }

  sums_table : (sums : List Weight) (k : ℕ) → SumsAbove t.count 64 (of_child t (active_weight t active)) sums k → sums ≡ table
      (sum_above t active k) 64
  sums_table sums k s =
      ext_get_or no_weight sums (table (sum_above t active k) 64) (s.many ∙ sym (table_length (sum_above t active k) 64))
      (λ p m.
      let u : p < 64 = omega (arith, s.many) in
      ap (λ (n : ℕ). record { 0 = n }) (s.at p u) ∙ sym (table_at (sum_above t active k) no_weight 64 p u))

  -- at first nothing
  pub sums_none : replicate 64 no_weight ≡ table (sum_above t active t.count) 64
  sums_none = sums_table (replicate 64 no_weight) t.count (sums_start t.count 64 (of_child t (active_weight t active)))

  -- at last all of it
  pub sums_all : table (sum_above t active 0) 64 ≡ weight_sums t active
  unfolding weight_sum children_sum weight_sums
  sums_all =
      table_same (sum_above t active 0) (λ p. record { 0 = sum_to (of_child t (active_weight t active) p) t.count }) 64
      (λ p u. ap (λ (n : ℕ). record { 0 = n }) (omega (arith, sum_none (of_child t (active_weight t active) p))))

  -- the sum of class p, read off them
  pub sums_at : (p : ℕ) → p < 64 → (get_or (weight_sums t active) p no_weight).0 ≡ weight_sum t active p
  unfolding weight_sums
  sums_at p u = ap (λ (w : Weight). w.0) (table_at (λ k. record { 0 = weight_sum t active k }) no_weight 64 p u)

  module _ (i : ℕ) (l : 1 ≤ i) (m : i ≤ t.count) (low : parent_of t i < 64) where
    above_at_lem : (get_or (table (sum_above t active i) 64) (parent_of t i) no_weight).0 ≡ (sum_above t active i (parent_of t i)).0
    above_at_lem = ap (λ (w : Weight). w.0) (table_at (sum_above t active i) no_weight 64 (parent_of t i) low)

    -- class i adds itself to its parent's sum
    pub sums_step : (x : Weight)
        → x.0 ≡ (get_or (table (sum_above t active i) 64) (parent_of t i) no_weight).0 + cond (has active i) (weight_of t i) 0
        → set (table (sum_above t active i) 64) (parent_of t i) x ≡ table (sum_above t active (i - 1)) 64
    sums_step x e =
        sums_table _ (i - 1)
        (sums_more t.count 64 (of_child t (active_weight t active)) (table (sum_above t active i) 64) i (parent_of t i) (cond (has active i)
        (weight_of t i) 0) x
        (table_sums i) l m low (child_own t (active_weight t active) i ∙ active_is t active i)
        (λ k ne. child_other t (active_weight t active) i k ne) e)

    -- which fits its number
    pub sums_fit : Light t → (get_or (table (sum_above t active i) 64) (parent_of t i) no_weight).0 + weight_of t i < 2 ^ 32
    sums_fit light =
        let p = parent_of t i in
        omega (
          arith,
          above_at_lem,
          light.few,
          light.light i (class_in_lem t i l m),
          sum_bound (of_child t (active_weight t active) p) 1_000_000 t.count (λ k a b. active_light t active p k light a b),
        )

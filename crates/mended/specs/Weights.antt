-- The mended weight of each class (R267 to R269): leaf weights untouched, no weight lowered, each inner weight the least that the rules
-- then allow. Demand 1.
use Rattle.std.specs.Prelude.{Bool, true, false, cond, ◌&&◌, List, ◌≡◌, ℕ, zero, suc, ◌≤◌, ◌<◌, max, ltb}
use Rattle.units.specs.declared.Weight.{Weight}
use Rattle.tree.specs.declared.Tree.{Tree}
use Rattle.tree.specs.Class.{weight_of, is_class, is_leaf, is_inner, children_sum}
use Rattle.tree.specs.Sum.{table}

-- an inner class's is the larger of its own and its children's mended weights together, any other's its own (R267); n is as many steps
-- down as there can be
unfoldable pub mended_in : ℕ → Tree → ℕ → ℕ
mended_in zero t i = weight_of t i
mended_in (suc n) t i = cond (is_inner t i) (max (weight_of t i) (children_sum t (mended_in n t) i)) (weight_of t i)

-- by all the steps that a tree of 63 classes can have (R267)
unfoldable pub mended_weight : Tree → ℕ → ℕ
mended_weight t i = mended_in 63 t i

-- 22: an inner class would need more than 1,000,000 (R271)
unfoldable pub needs_more : Tree → ℕ → Bool
needs_more t i = is_inner t i && ltb 1_000_000 (mended_weight t i)

-- the tree with other weights, all else as it is, its rule too (R268)
abbrev pub with_weights : Tree → List Weight → Tree
with_weights t weights = record {
  count = t.count;
  leaves = t.leaves;
  parent = t.parent;
  weight = weights;
  longest = t.longest;
  follows = t.follows;
}

-- the mended weights by class number, and the tree that has them (R268)
abbrev pub mended_weights : Tree → List Weight
mended_weights t = table (λ i. record { 0 = mended_weight t i }) 64

abbrev pub mended_tree : Tree → Tree
mended_tree t = with_weights t (mended_weights t)

-- weights that keep the leaves', lower none and break number 7 nowhere; the mended ones are the least of these (R269: `mended_mends` and
-- `mended_least`, proofs/Least)
pub record Mends (t : Tree) (w : ℕ → ℕ) : Type 0 where
  pub leaves : (i : ℕ) → is_class t i ≡ true → is_leaf t i ≡ true → w i ≡ weight_of t i
  pub lowers_none : (i : ℕ) → is_class t i ≡ true → weight_of t i ≤ w i
  pub shares : (i : ℕ) → is_inner t i ≡ true → children_sum t w i ≤ w i

-- tree m is tree t but for the weights of inner classes (R272)
pub record AsRead (t m : Tree) : Type 0 where
  pub others : m ≡ with_weights t m.weight
  pub weights : (i : ℕ) → i < 64 → is_inner t i ≡ false → weight_of m i ≡ weight_of t i

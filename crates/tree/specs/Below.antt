-- Which classes are at or below a class, which are above others (R24, R109), and sums over the leaves at or below one. Demands 1 to 3.
use Rattle.std.specs.Prelude.{Bool, true, false, cond, ◌&&◌, ◌||◌, List, ◌≡◌, ℕ, zero, suc, ◌≤◌, eqb, get_or, set}
use Rattle.tree.specs.declared.Tree.{Tree}
use Rattle.tree.specs.Class.{parent_of, is_class, is_leaf, children_sum}
use Rattle.tree.specs.Sum.{sum_to}

-- class j is class i, or below it; n is as many steps up as there can be (R24)
unfoldable pub climbs : ℕ → Tree → ℕ → ℕ → Bool
climbs zero t i j = eqb i j
climbs (suc n) t i zero = eqb i 0
climbs (suc n) t i (suc j) = eqb i (suc j) || climbs n t i (parent_of t (suc j))

unfoldable pub at_or_below : Tree → ℕ → ℕ → Bool
at_or_below t i j = climbs 63 t i j

-- what class j adds to a sum of x over the leaves at or below class i, and that sum (R70)
unfoldable pub leaf_below : Tree → (ℕ → ℕ) → ℕ → ℕ → ℕ
leaf_below t x i j = cond (is_leaf t j && at_or_below t i j) (x j) 0

unfoldable pub leaves_sum : Tree → (ℕ → ℕ) → ℕ → ℕ
leaves_sum t x i = sum_to (leaf_below t x i) t.count

-- x i is that sum at class i, told by its children alone (`local_from`, proofs/Leaves): a leaf's is its own, any other class's its
-- children's
pub record AddsBelow (t : Tree) (f x : ℕ → ℕ) (i : ℕ) : Type 0 where
  pub leaf : is_leaf t i ≡ true → x i ≡ f i
  pub other : is_leaf t i ≡ false → x i ≡ children_sum t x i

-- a table of numbers by class, changed by f at class j and at every class above it; n is as many steps up as there can be (R277)
unfoldable pub way_up : ℕ → Tree → (ℕ → ℕ) → ℕ → List ℕ → List ℕ
way_up zero t f j xs = set xs 0 (f (get_or xs 0 0))
way_up (suc n) t f zero xs = set xs 0 (f (get_or xs 0 0))
way_up (suc n) t f (suc j) xs = way_up n t f (parent_of t (suc j)) (set xs (suc j) (f (get_or xs (suc j) 0)))

unfoldable pub changed_up : Tree → (ℕ → ℕ) → ℕ → List ℕ → List ℕ
changed_up t f j xs = way_up 63 t f j xs

-- class i is below class a: a child of it, or a child of a class below it (R109)
pub data Below (t : Tree) (a : ℕ) : ℕ → Type 0 where
  child : (i : ℕ) → is_class t i ≡ true → parent_of t i ≡ a → Below t a i
  under : (i : ℕ) → is_class t i ≡ true → Below t a (parent_of t i) → Below t a i

-- a class above others: the root or an inner class (R109)
pub record Above (t : Tree) (i : ℕ) : Type 0 where
  pub class : i ≤ t.count
  pub inner : is_leaf t i ≡ false

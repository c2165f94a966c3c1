-- The classes of a tree (R21 to R24): class 0 is the root, the others are numbered 1, 2, .. in plan order. Demands 1 to 3.
use Rattle.std.specs.Prelude.{Bool, false, cond, ◌&&◌, not, ℕ, ◌+◌, eqb, leb, get_or, set, replicate}
use Rattle.sets.specs.Set.{has, with}
use Rattle.units.specs.declared.Weight.{Weight}
use Rattle.tree.specs.declared.Tree.{Tree}
use Rattle.tree.specs.declared.Class.{Class}
use Rattle.tree.specs.Sum.{sum_to, some_to}

-- no weight
abbrev pub no_weight : Weight
no_weight = record { 0 = 0 }

-- the parent, the weight and the longest packet of class i
abbrev pub parent_of : Tree → ℕ → ℕ
parent_of t i = get_or t.parent i 0

abbrev pub weight_of : Tree → ℕ → ℕ
weight_of t i = (get_or t.weight i no_weight).0

abbrev pub longest_of : Tree → ℕ → ℕ
longest_of t i = get_or t.longest i 0

-- i is the number of a class that a plan record gave (R21)
unfoldable pub is_class : Tree → ℕ → Bool
is_class t i = leb 1 i && leb i t.count

-- class i is a leaf; any other class, but the root, is inner (R23, R34)
unfoldable pub is_leaf : Tree → ℕ → Bool
is_leaf t i = has t.leaves i

unfoldable pub is_inner : Tree → ℕ → Bool
is_inner t i = is_class t i && not (is_leaf t i)

-- class i is a child of class p (R24)
unfoldable pub is_child : Tree → ℕ → ℕ → Bool
is_child t p i = eqb (parent_of t i) p

-- what class i adds to a sum of x over the children of class p, and that sum (R29, R73, R122)
unfoldable pub of_child : Tree → (ℕ → ℕ) → ℕ → ℕ → ℕ
of_child t x p i = cond (is_child t p i) (x i) 0

unfoldable pub children_sum : Tree → (ℕ → ℕ) → ℕ → ℕ
children_sum t x p = sum_to (of_child t x p) t.count

-- what the children of class p weigh together (R29)
unfoldable pub children_weight : Tree → ℕ → ℕ
children_weight t p = children_sum t (weight_of t) p

-- class p has a child (R30)
unfoldable pub has_child : Tree → ℕ → Bool
has_child t p = some_to (is_child t p) t.count

-- the tree without classes: all its numbers are 0, and its rule is 1 (R35, R62, R226)
abbrev pub no_tree : Tree
no_tree = record {
  count = 0;
  leaves = 0;
  parent = replicate 64 0;
  weight = replicate 64 no_weight;
  longest = replicate 64 0;
  follows = false;
}

-- the tree with this rule: rule 2, the round size follows who is active, or rule 1, it is the whole tree's (R222)
abbrev pub ruled : Tree → Bool → Tree
ruled t follows = record {
  count = t.count;
  leaves = t.leaves;
  parent = t.parent;
  weight = t.weight;
  longest = t.longest;
  follows = follows;
}

-- the tree with one class more, whose number follows the last; its rule stays (R22, R35, R226)
abbrev pub added : Tree → Class → Tree
added t c = record {
  count = t.count + 1;
  leaves = cond c.leaf (with t.leaves (t.count + 1)) t.leaves;
  parent = set t.parent (t.count + 1) c.parent;
  weight = set t.weight (t.count + 1) c.weight;
  longest = set t.longest (t.count + 1) c.longest;
  follows = t.follows;
}

-- A tree as one array of numbers, so that it can be lent: of each class number the parent, the weight and the longest packet, 64 numbers
-- each, then how many classes there are, the set of leaves, and 1 where the size follows who is active. Beside it each class number's
-- set of children. No rule of its own.
use Rattle.std.specs.Prelude.{Bool, cond, ◌&&◌, List, ◌≡◌, ℕ, ◌+◌, ◌^◌, ◌<◌, eqb, get_or}
use Rattle.sets.specs.Set.{has}
use Rattle.tree.specs.declared.Tree.{Tree}
use Rattle.tree.specs.Class.{is_class, is_child}
use Rattle.tree.specs.Sum.{table}

-- the tree that these numbers are
unfoldable pub tree_in : List ℕ → Tree
tree_in s = record {
  count = get_or s 192 0;
  leaves = get_or s 193 0;
  parent = table (λ i. get_or s i 0) 64;
  weight = table (λ i. record { 0 = get_or s (64 + i) 0 }) 64;
  longest = table (λ i. get_or s (128 + i) 0) 64;
  follows = eqb (get_or s 194 0) 1;
}

-- these are the sets of children of a tree's class numbers
pub record Families (t : Tree) (children : List ℕ) : Type 0 where
  pub fits : (p : ℕ) → p < 64 → get_or children p 0 < 2 ^ 64
  pub child : (p i : ℕ) → p < 64 → i < 64 → has (get_or children p 0) i ≡ (is_class t i && is_child t p i)

-- the rule as a number
abbrev pub rule_number : Bool → ℕ
rule_number follows = cond follows 1 0

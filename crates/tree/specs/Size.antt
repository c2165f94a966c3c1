-- The round size Q of the whole tree (R38, R39), and which sizes may be in force (R232). Demands 2 and 3.
use Rattle.std.specs.Prelude.{false, cond, ◌≡◌, ℕ, ◌+◌, ◌*◌, ◌≤◌}
use Rattle.units.specs.Unit.{size_of}
use Rattle.units.specs.Cost.{cost_of, most_cost}
use Rattle.tree.specs.declared.Tree.{Tree}
use Rattle.tree.specs.Class.{weight_of, longest_of, is_leaf}
use Rattle.tree.specs.Sum.{sum_to}

-- the sum of all weights (R38)
unfoldable pub all_weights : Tree → ℕ
all_weights t = sum_to (weight_of t) t.count

-- what the longest packet of class i costs, where it is a leaf (R16, R38)
unfoldable pub longest_cost : Tree → ℕ → ℕ
longest_cost t i = cond (is_leaf t i) (cost_of (longest_of t i)) 0

-- the sum of what all leaves' longest packets cost (R38)
unfoldable pub all_longest : Tree → ℕ
all_longest t = sum_to (longest_cost t) t.count

-- Q: the sum of all weights plus the sum of what all leaves' longest packets cost (R38)
unfoldable pub round_size : Tree → ℕ
round_size t = size_of (all_weights t) (all_longest t)

-- a size that may be in force: never above the whole tree's, and under rule 1 the whole tree's (R232)
pub record SizeRight (t : Tree) (size : ℕ) : Type 0 where
  pub most : size ≤ round_size t
  pub whole : t.follows ≡ false → size ≡ round_size t

-- Q is at most 63,582,120: 63 classes of the heaviest weight, each a leaf of the longest packet (R39)
abbrev pub most_size : ℕ
most_size = 63 * 1_000_000 + 63 * most_cost

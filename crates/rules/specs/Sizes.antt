-- The size that a main round opens with, by the tree's rule (R227, R228). Demands 2 and 3.
use Rattle.std.specs.Prelude.{cond, ℕ}
use Rattle.sets.specs.Set.{has}
use Rattle.units.specs.Unit.{size_of}
use Rattle.tree.specs.declared.Tree.{Tree}
use Rattle.tree.specs.Class.{weight_of}
use Rattle.tree.specs.Size.{longest_cost, round_size}
use Rattle.tree.specs.Sum.{sum_to}

-- what class i counts for among these active classes (R227)
unfoldable pub if_active : ℕ → (ℕ → ℕ) → ℕ → ℕ
if_active active f i = cond (has active i) (f i) 0

-- the active classes' weights (R227)
unfoldable pub active_weights : Tree → ℕ → ℕ
active_weights t active = sum_to (if_active active (weight_of t)) t.count

-- what the active leaves' longest packets cost (R227)
unfoldable pub active_longest : Tree → ℕ → ℕ
active_longest t active = sum_to (if_active active (longest_cost t)) t.count

-- rule 2's size: both together (R227)
unfoldable pub active_size : Tree → ℕ → ℕ
active_size t active = size_of (active_weights t active) (active_longest t active)

-- the size that a main round is opened with: by rule 2 that of the active classes, by rule 1 the whole tree's (R228)
unfoldable pub main_size : Tree → ℕ → ℕ
main_size t active = cond t.follows (active_size t active) (round_size t)

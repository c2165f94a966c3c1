-- An active set that is known, and its weight sums, kept as a number array.
use Rattle.std.specs.Prelude.{true, ◌&&◌, List, ◌≡◌, ℕ, length}
use Rattle.sets.specs.Set.{has}
use Rattle.tree.specs.declared.Tree.{Tree}
use Rattle.tree.specs.Class.{is_leaf}
use Rattle.tree.specs.Sum.{table}
use Rattle.rules.specs.Active.{upward, weight_sum}

-- a set of classes that is its leaves and every class above one
abbrev pub Raised : Tree → ℕ → Type 0
Raised t known = known ≡ upward t (λ i. is_leaf t i && has known i)

-- the weight sums of an active set, as bare numbers
abbrev pub Summed : Tree → ℕ → List ℕ → Type 0
Summed t active sums = sums ≡ table (weight_sum t active) 64

-- such a set that is known, with its weight sums kept; of a set without the root none are kept
pub record Kept (t : Tree) (known : ℕ) (kept : List ℕ) : Type 0 where
  pub wide : length kept ≡ 64
  pub raised : Raised t known
  pub sums : has known 0 ≡ true → Summed t known kept

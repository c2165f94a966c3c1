-- What a class requests, from a table of 64 entries by class number of which only the leaves' are read (R68 to R70).
use Rattle.std.specs.Prelude.{true, cond, List, ◌≡◌, ℕ, get_or}
use Rattle.tree.specs.declared.Tree.{Tree}
use Rattle.tree.specs.Class.{is_class, is_leaf}
use Rattle.tree.specs.Below.{leaves_sum}

-- what a table has for class number i (R68)
abbrev pub entry : List ℕ → ℕ → ℕ
entry table i = get_or table i 0

-- what class i requests: a leaf its entry, an inner class or the root the sum of its leaves (R69, R70)
unfoldable pub request_of : Tree → List ℕ → ℕ → ℕ
request_of t table i = cond (is_leaf t i) (entry table i) (leaves_sum t (entry table) i)

-- two tables have the same entry at every leaf: then they give the same answer (R69; proofs/OneAnswer)
pub record SameAtLeaves (t : Tree) (x y : List ℕ) : Type 0 where
  pub at : (i : ℕ) → is_class t i ≡ true → is_leaf t i ≡ true → entry x i ≡ entry y i

-- How a class shares out what it has among its children: F, and what each child gets by it (R73, R74, R78).
use Rattle.std.specs.Prelude.{cond, ℕ, ◌*◌, ◌≤◌, min, ltb}
use Rattle.tree.specs.declared.Tree.{Tree}
use Rattle.tree.specs.Class.{weight_of, children_sum}

-- class i at F: min(request, weight × F) (R74)
abbrev pub share_at : Tree → (ℕ → ℕ) → ℕ → ℕ → ℕ
share_at t request f i = min (request i) (weight_of t i * f)

-- the children's min(request, weight × F) add to at most what class p has (R73)
abbrev pub Fits : Tree → (ℕ → ℕ) → ℕ → ℕ → ℕ → Type 0
Fits t request p has f = children_sum t (share_at t request f) p ≤ has

-- f is the largest whole number for which P holds (R73)
pub record Largest (P : ℕ → Type 0) (f : ℕ) : Type 0 where
  pub holds : P f
  pub most : (g : ℕ) → P g → g ≤ f

-- the weight of class i where it gets less than it requests, and the weight sum of class p's unmet children (R78)
unfoldable pub unmet_at : Tree → (ℕ → ℕ) → (ℕ → ℕ) → ℕ → ℕ
unmet_at t request gets i = cond (ltb (gets i) (request i)) (weight_of t i) 0

unfoldable pub unmet_weight : Tree → (ℕ → ℕ) → (ℕ → ℕ) → ℕ → ℕ
unmet_weight t request gets p = children_sum t (unmet_at t request gets) p

-- What each class gets from what its parent has, from the root down, and what stays unallotted at each (R71 to R76).
use Rattle.std.specs.Prelude.{true, ◌≡◌, ℕ, ◌+◌, ◌≤◌, ◌<◌, min}
use Rattle.tree.specs.declared.Tree.{Tree}
use Rattle.tree.specs.Class.{parent_of, is_class, is_leaf, children_sum}
use Rattle.tree.specs.Below.{Above}
use Rattle.allot.specs.Share.{share_at, Fits, Largest}

-- class i is a child of class p
pub record Child (t : Tree) (p i : ℕ) : Type 0 where
  pub class : is_class t i ≡ true
  pub parent : parent_of t i ≡ p

-- F is the largest whole number for which the children's min(request, weight × F) add to at most what the class has, and each
-- child gets that minimum (R73, R74)
pub record SharedBy (t : Tree) (request gets : ℕ → ℕ) (p f : ℕ) : Type 0 where
  pub largest : Largest (Fits t request p (gets p)) f
  pub each : (i : ℕ) → Child t p i → gets i ≡ share_at t request f i

-- what the classes of a tree get for a capacity and their requests
pub record Allots (t : Tree) (capacity : ℕ) (request gets unallotted : ℕ → ℕ) : Type 0 where
  -- the root has the smaller of capacity and total request (R71)
  pub root : gets 0 ≡ min capacity (request 0)
  -- a class whose request is met meets all its children's (R72)
  pub met : (p i : ℕ) → request p ≤ gets p → Child t p i → gets i ≡ request i
  -- otherwise it shares out what it has by F (R73)
  pub unmet : (p : ℕ) → Above t p → gets p < request p → (f : ℕ) × SharedBy t request gets p f
  -- what stays unallotted at the root or an inner class, and what its children get, add to what it has (R76)
  pub left : (p : ℕ) → Above t p → unallotted p + children_sum t gets p ≡ gets p
  -- nothing stays unallotted at a leaf (R76)
  pub leaf : (i : ℕ) → is_leaf t i ≡ true → unallotted i ≡ 0

-- A change at one leaf changes exactly the sums of the classes that it is at or below, and a table changed on the way up from it is changed
-- exactly there. Demand 2.
use mathlib.Core.Bool.{Bool, true, false, cond, ◌&&◌}
use mathlib.Core.List.{List}
use mathlib.Core.Path.{◌≡◌, refl, ap, ◌∙◌}
use Prim.Native.Nat.{ℕ, zero, suc, ◌+◌, ◌≤◌, ◌<◌}
use native.Mathlib.Decide.{ℕ_discrete}
use native.Mathlib.Omega.{arith}
use lib.ListN.{length, get_or, set, length-set}
use lib.Seq.{get_or-set_same, get_or-set_other}
use borrow.Author.Tests.{ne_eqb}
use Rattle.tree.specs.declared.Tree.{Tree}
use Rattle.tree.specs.Class.{parent_of, is_leaf}
use Rattle.tree.specs.Below.{at_or_below, leaf_below, leaves_sum, way_up, changed_up}
use Rattle.tree.specs.Rules.{PlanRules}
use Rattle.tree.proofs.Rules.{parent_below}
use Rattle.tree.proofs.Below.{below_root, below_self, below_least, below_parent}
use Rattle.tree.proofs.Leaves.{leaf_least, leaf_known}
use Rattle.tree.proofs.Sums.{sum_change}

module _ (t : Tree) (rules : PlanRules t) where
  -- it changes exactly the sums of the classes that it is at or below
  pub sum_changes : (f g : ℕ → ℕ) (j i : ℕ) → is_leaf t j ≡ true → ((k : ℕ) → (k ≡ j → ⊥) → f k ≡ g k)
      → leaves_sum t g i + cond (at_or_below t i j) (f j) 0 ≡ leaves_sum t f i + cond (at_or_below t i j) (g j) 0
  unfolding leaves_sum leaf_below
  sum_changes f g j i leaf same =
      let e =
      sum_change (leaf_below t f i) (leaf_below t g i) t.count j (leaf_least t rules j leaf) (leaf_known t rules j leaf)
      (λ k ne. ap (λ (n : ℕ). cond (is_leaf t k && at_or_below t i k) n 0) (same k ne))
      in
      rw leaf at e

  -- ---- the way up

  up_root : (f : ℕ → ℕ) (xs : List ℕ) (i : ℕ) → length xs ≡ 64
      → get_or (set xs 0 (f (get_or xs 0 0))) i 0 ≡ cond (at_or_below t i 0) (f (get_or xs i 0)) (get_or xs i 0)
  up_root f xs i many = at (ℕ_discrete i 0)
    where
      at : Dec (i ≡ 0) → get_or (set xs 0 (f (get_or xs 0 0))) i 0 ≡ cond (at_or_below t i 0) (f (get_or xs i 0)) (get_or xs i 0)
      at (yes z) =
          rw (z, below_root t rules 0) (get_or-set_same xs 0 (f (get_or xs 0 0)) 0 (omega (arith, many)))
      at (no z) = rw (below_root t rules i, ne_eqb i 0 z) (get_or-set_other xs 0 i (f (get_or xs 0 0)) 0 z)

  -- one step up, and the rest of the way
  up_step : (f : ℕ → ℕ) (j : ℕ) (xs : List ℕ) (i y : ℕ) → 1 ≤ j → j < 64 → length xs ≡ 64
      → y ≡ cond (at_or_below t i (parent_of t j)) (f (get_or (set xs j (f (get_or xs j 0))) i 0)) (get_or (set xs j (f (get_or xs j 0))) i 0)
      → y ≡ cond (at_or_below t i j) (f (get_or xs i 0)) (get_or xs i 0)
  up_step f j xs i y l u many rest = rest ∙ at (ℕ_discrete i j)
    where
      low : parent_of t j < j
      low = parent_below t j rules l u

      no_higher : (b : Bool) → at_or_below t j (parent_of t j) ≡ b → b ≡ false
      no_higher true e = absurd (omega (arith, below_least t rules j (parent_of t j) (omega (arith, low, u)) e, low))
      no_higher false e = refl

      at : Dec (i ≡ j)
          → cond (at_or_below t i (parent_of t j)) (f (get_or (set xs j (f (get_or xs j 0))) i 0)) (get_or (set xs j (f (get_or xs j 0))) i 0)
          ≡ cond (at_or_below t i j) (f (get_or xs i 0)) (get_or xs i 0)
      at (yes e) =
          let none = no_higher (at_or_below t j (parent_of t j)) refl in
          rw (e, none, below_self t rules j u) (get_or-set_same xs j (f (get_or xs j 0)) 0 (omega (arith, many)))
      at (no e) = rw (below_parent t rules i j l u e, get_or-set_other xs j i (f (get_or xs j 0)) 0 e) refl

  -- a table changed on the way up from class j is changed at the classes that class j is at or below
  way_up_lem : (f : ℕ → ℕ) (n j : ℕ) (xs : List ℕ) (i : ℕ) → j ≤ n → j < 64 → length xs ≡ 64
      → get_or (way_up n t f j xs) i 0 ≡ cond (at_or_below t i j) (f (get_or xs i 0)) (get_or xs i 0)
  unfolding way_up
  way_up_lem f zero j xs i a u many =
      let z : j ≡ 0 = omega arith in
      rw z (up_root f xs i many)
  way_up_lem f (suc n) j xs i a u many = go j a u (λ k ys x y z. way_up_lem f n k ys i x y z)
    where
      go : (j : ℕ) → j ≤ suc n → j < 64
          → ((k : ℕ) (ys : List ℕ) → k ≤ n → k < 64 → length ys ≡ 64
          → get_or (way_up n t f k ys) i 0 ≡ cond (at_or_below t i k) (f (get_or ys i 0)) (get_or ys i 0))
          → get_or (way_up (suc n) t f j xs) i 0 ≡ cond (at_or_below t i j) (f (get_or xs i 0)) (get_or xs i 0)
      go zero a u ih = up_root f xs i many
      go (suc j) a u ih =
          let low = parent_below t (suc j) rules (omega arith) u in
          let ys = set xs (suc j) (f (get_or xs (suc j) 0)) in
          up_step f (suc j) xs i _ (omega arith) u many
          (ih (parent_of t (suc j)) ys (omega (arith, low)) (omega (arith, low, u))
          (length-set xs (suc j) (f (get_or xs (suc j) 0)) ∙ many))

  pub changed_up_lem : (f : ℕ → ℕ) (j : ℕ) (xs : List ℕ) (i : ℕ) → j < 64 → length xs ≡ 64
      → get_or (changed_up t f j xs) i 0 ≡ cond (at_or_below t i j) (f (get_or xs i 0)) (get_or xs i 0)
  unfolding changed_up
  changed_up_lem f j xs i u many = way_up_lem f 63 j xs i (omega arith) u many

-- the table keeps its length
way_length : (t : Tree) (f : ℕ → ℕ) (n j : ℕ) (xs : List ℕ) → length (way_up n t f j xs) ≡ length xs
unfolding way_up
way_length t f zero j xs = length-set xs 0 (f (get_or xs 0 0))
way_length t f (suc n) zero xs = length-set xs 0 (f (get_or xs 0 0))
way_length t f (suc n) (suc j) xs =
    way_length t f n (parent_of t (suc j)) (set xs (suc j) (f (get_or xs (suc j) 0))) ∙ length-set xs (suc j) (f (get_or xs (suc j) 0))

pub changed_length : (t : Tree) (f : ℕ → ℕ) (j : ℕ) (xs : List ℕ) → length (changed_up t f j xs) ≡ length xs
unfolding changed_up
changed_length t f j xs = way_length t f 63 j xs

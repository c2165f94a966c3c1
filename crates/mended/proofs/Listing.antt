-- The list of changes (R273), made class by class upward.
use mathlib.Core.Bool.{Bool, true, false, cond}
use mathlib.Core.List.{List, [], ◌∷◌, ◌++◌, append-nil}
use mathlib.Core.Path.{◌≡◌, refl, sym, ap₂, ◌∙◌}
use Prim.Native.Nat.{ℕ, zero, suc, ◌+◌, ◌-◌, ◌≤◌, ◌<◌}
use native.Mathlib.Omega.{arith}
use lib.Dec.{ltb}
use lib.ListN.{length, set, replicate, length-append}
use lib.Seq.{set_at, append_snoc}
use Rattle.units.specs.declared.Weight.{Weight}
use Rattle.tree.specs.declared.Tree.{Tree}
use Rattle.tree.specs.Class.{weight_of}
use Rattle.mended.specs.declared.Change.{Change}
use Rattle.mended.specs.declared.Changes.{Changes}
use Rattle.mended.specs.Weights.{mended_weight}
use Rattle.mended.specs.Answer.{change, change_of, changes_to, no_change, listed}
use Rattle.mended.specs.Steps.{noted}

pub changes_none : (t : Tree) → changes_to t 0 ≡ []
unfolding changes_to
changes_none t = refl

changes_last : (t : Tree) (n : ℕ) → changes_to t (suc n) ≡ changes_to t n ++ change_of t (suc n)
unfolding changes_to
changes_last t n = refl

-- at most one of each class
one_or_none : (b : Bool) (c : Change) → length (cond b (c ∷ []) []) ≤ 1
one_or_none true c = omega arith
one_or_none false c = omega arith

change_one : (t : Tree) (i : ℕ) → length (change_of t i) ≤ 1
unfolding change_of
change_one t i = one_or_none (ltb (weight_of t i) (mended_weight t i)) (change i (weight_of t i) (mended_weight t i))

pub changes_few : (t : Tree) (n : ℕ) → length (changes_to t n) ≤ n
changes_few t zero = rw (changes_none t) (omega arith)
changes_few t (suc n) =
    rw (changes_last t n) (omega (arith, length-append (changes_to t n) (change_of t (suc n)), changes_few t n, change_one t (suc n)))

-- one entry more
listed_more : (xs : List Change) (x : Change) → length xs < 64
    → ◌≡◌ {A = Changes} (record { count = length xs + 1; at = set (xs ++ replicate (64 - length xs) no_change) (length xs) x })
    (listed (xs ++ (x ∷ [])))
listed_more xs x u = ap₂ (λ (n : ℕ) (l : List Change). record { count = n; at = l }) (sym longer) (filled ∙ again)
  where
    longer : length (xs ++ (x ∷ [])) ≡ length xs + 1
    longer = length-append xs (x ∷ [])

    filled : set (xs ++ replicate (64 - length xs) no_change) (length xs) x ≡ xs ++ x ∷ replicate (64 - (length xs + 1)) no_change
    filled =
        let e : 64 - length xs ≡ suc (64 - (length xs + 1)) = omega arith in
        rw e (set_at xs no_change (replicate (64 - (length xs + 1)) no_change) x (length xs) refl)

    again : xs ++ x ∷ replicate (64 - (length xs + 1)) no_change
        ≡ (xs ++ (x ∷ [])) ++ replicate (64 - length (xs ++ (x ∷ []))) no_change
    again = rw longer (sym (append_snoc xs x (replicate (64 - (length xs + 1)) no_change)))

-- a turn of the loop
pub list_step : (t : Tree) (i : ℕ) (c : Changes) (old new : Weight) → 1 ≤ i → i ≤ 63 → c ≡ listed (changes_to t (i - 1))
    → old.0 ≡ weight_of t i → new.0 ≡ mended_weight t i → noted c i old new ≡ listed (changes_to t (i + 1 - 1))
unfolding change_of
list_step t zero c old new l u e a b = absurd (omega arith)
list_step t (suc n) c old new l u e a b =
    let s : suc n + 1 - 1 ≡ suc n = omega arith in
    let s' : suc n - 1 ≡ n = omega arith in
    rw (s, changes_last t n) (go (ltb (weight_of t (suc n)) (mended_weight t (suc n))) refl (rw s' at e))
  where
    row : Change
    row = change (suc n) (weight_of t (suc n)) (mended_weight t (suc n))

    go : (q : Bool) → ltb (weight_of t (suc n)) (mended_weight t (suc n)) ≡ q → c ≡ listed (changes_to t n)
        → noted c (suc n) old new ≡ listed (changes_to t n ++ change_of t (suc n))
    go true h e = rw (a, b, h, e) (listed_more (changes_to t n) row (omega (arith, changes_few t n)))
    go false h e = rw (a, b, h, append-nil (changes_to t n)) e

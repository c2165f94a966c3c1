-- The plan rules on a tree (R25 to R37): numbers 3 to 9, and that what a plan does not set is 0. Demand 1.
use Rattle.checks.specs.declared.Refusal.TheVariants.{BadParent, BadWeight, BadLongest, TooHeavy, Childless, NoClass}
use Rattle.std.specs.Prelude.{Bool, true, false, ◌&&◌, ◌||◌, not, List, [], ◌∷◌, ◌≡◌, ℕ, ◌^◌, ◌≤◌, ◌<◌, eqb, leb, ltb}
use Rattle.checks.specs.Check.{Check, check, class_by_class}
use Rattle.tree.specs.declared.Tree.{Tree}
use Rattle.tree.specs.Class.{parent_of, weight_of, longest_of, is_class, is_leaf, is_inner, children_weight, has_child}

-- 3: more class records than 63 (R25)
unfoldable pub too_many : Tree → Bool
too_many t = ltb 63 t.count

-- 4: parent not lower than the class, or a leaf (R26)
unfoldable pub bad_parent : Tree → ℕ → Bool
bad_parent t i = leb i (parent_of t i) || is_leaf t (parent_of t i)

-- 5: weight outside its range, 1 to 1,000,000 (R27)
unfoldable pub bad_weight : Tree → ℕ → Bool
bad_weight t i = ltb (weight_of t i) 1 || ltb 1_000_000 (weight_of t i)

-- 6: longest outside its range, 1 to 9,216 (R17, R28)
unfoldable pub bad_longest : Tree → ℕ → Bool
bad_longest t i = is_leaf t i && (ltb (longest_of t i) 1 || ltb 9_216 (longest_of t i))

-- 7: children's weights exceed their inner parent's (R29, R34)
unfoldable pub too_heavy : Tree → ℕ → Bool
too_heavy t i = is_inner t i && ltb (weight_of t i) (children_weight t i)

-- 8: inner class without a child (R30)
unfoldable pub childless : Tree → ℕ → Bool
childless t i = is_inner t i && not (has_child t i)

-- 9: no class at all (R31)
unfoldable pub no_class : Tree → Bool
no_class t = eqb t.count 0

-- a class record is checked in the order 4, 5, 6, at its record's place (R32, R57)
abbrev pub class_checks : Tree → ℕ → ℕ → List Check
class_checks t i place =
    check BadParent (bad_parent t i) place ∷ check BadWeight (bad_weight t i) place ∷ check BadLongest (bad_longest t i) place ∷ []

-- after the end record come 9, then class by class upward 8 and 7 (R33, R60)
abbrev pub closing_of : Tree → ℕ → List Check
closing_of t i = check Childless (childless t i) i ∷ check TooHeavy (too_heavy t i) i ∷ []

abbrev pub closing_checks : Tree → List Check
closing_checks t = check NoClass (no_class t) 0 ∷ class_by_class (closing_of t) t.count

-- numbers 4, 5 and 6 are broken at no class (R37)
pub record ClassesPass (t : Tree) : Type 0 where
  pub parents : (i : ℕ) → is_class t i ≡ true → bad_parent t i ≡ false
  pub weights : (i : ℕ) → is_class t i ≡ true → bad_weight t i ≡ false
  pub longests : (i : ℕ) → is_class t i ≡ true → bad_longest t i ≡ false

-- numbers 9, 8 and 7 are broken nowhere (R37)
pub record ClosingPasses (t : Tree) : Type 0 where
  pub classes : no_class t ≡ false
  pub children : (i : ℕ) → is_class t i ≡ true → childless t i ≡ false
  pub shares : (i : ℕ) → is_class t i ≡ true → too_heavy t i ≡ false

-- nothing is set of class number i: no parent, no weight, no leaf (R34, R35)
pub record NothingSet (t : Tree) (i : ℕ) : Type 0 where
  pub parent : parent_of t i ≡ 0
  pub weight : weight_of t i ≡ 0
  pub leaf : is_leaf t i ≡ false

-- what a plan does not set is 0: class numbers past the last, the root's parent and weight, the longest packet of the root and of inner
-- classes (R34, R35)
pub record UnsetIsZero (t : Tree) (i : ℕ) : Type 0 where
  pub past : is_class t i ≡ false → NothingSet t i
  pub longest : is_leaf t i ≡ false → longest_of t i ≡ 0

-- the set of leaves is a 64-bit number, so no larger number is a leaf either (R35, R36)
pub record AllUnsetZero (t : Tree) : Type 0 where
  pub at : (i : ℕ) → i < 64 → UnsetIsZero t i
  pub word : t.leaves < 2 ^ 64

-- a tree obeys the plan rules: numbers 3 to 9 are broken nowhere, and what a plan does not set is 0 (R36, R37)
pub record PlanRules (t : Tree) : Type 0 where
  pub few : too_many t ≡ false
  pub each : ClassesPass t
  pub closing : ClosingPasses t
  pub unset : AllUnsetZero t

-- few classes, and none above the heaviest weight: what a sum of weights needs to fit its number
pub record Light (t : Tree) : Type 0 where
  pub few : t.count ≤ 63
  pub light : (i : ℕ) → is_class t i ≡ true → weight_of t i ≤ 1_000_000

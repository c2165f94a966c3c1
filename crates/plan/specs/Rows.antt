-- When each of the numbers 1 to 9, 17 and 18 is given, and where (R53 to R60, R63, R224, R225): each with no earlier check broken. Demand
-- 1. The reader gives a number at a place exactly when its row says so here (proofs/Numbers.antt).
use Rattle.std.specs.Prelude.{true, false, List, ◌≡◌, ℕ, suc, ◌≤◌, ◌<◌, length, drop}
use Rattle.checks.specs.declared.Refusal.{Refusal}
use Rattle.checks.specs.declared.Refusal.TheVariants.{Cut, UnknownKind, TooMany, BadParent, BadWeight, BadLongest, TooHeavy, Childless}
use Rattle.checks.specs.declared.Refusal.TheVariants.{NoClass, BadRule, LateRule}
use Rattle.tree.specs.declared.Tree.{Tree}
use Rattle.tree.specs.Class.{is_class}
use Rattle.tree.specs.Rules.{too_many, bad_parent, bad_weight, bad_longest, too_heavy, childless, no_class}
use Rattle.plan.specs.declared.kind.Section.TheVariants.{Plan}
use Rattle.plan.specs.Kind.{gives_class, gives_rule}
use Rattle.plan.specs.Record.{kind_at, missing, unknown, cut, late_rule, bad_rule}
use Rattle.plan.specs.Reader.{after, tree_of, passes}

-- the input from the record after the first k class records on
abbrev pub rest_of : List ℕ → ℕ → List ℕ
rest_of s k = drop (after s k) s

-- the first k records after a rule record, where there is one, give classes and break no rule (R63)
pub record Reached (s : List ℕ) (k : ℕ) : Type 0 where
  pub most : k ≤ 63
  pub below : (j : ℕ) → j < k → passes s j ≡ true

-- the record after them is whole and of a kind that stands in a plan (R63)
pub record WholeRecord (s : List ℕ) (k : ℕ) : Type 0 where
  pub reached : Reached s k
  pub there : missing (rest_of s k) ≡ false
  pub known : unknown Plan (rest_of s k) ≡ false
  pub whole : cut (rest_of s k) ≡ false

-- and it gives class k + 1 (R63)
pub record ClassRecord (s : List ℕ) (k : ℕ) : Type 0 where
  pub record' : WholeRecord s k
  pub class : gives_class (kind_at (rest_of s k)) ≡ true

-- or it is the end record, which gives no rule either (R63)
pub record EndRecord (s : List ℕ) (k : ℕ) : Type 0 where
  pub record' : WholeRecord s k
  pub end : gives_class (kind_at (rest_of s k)) ≡ false
  pub rule : gives_rule (kind_at (rest_of s k)) ≡ false

-- no class numbered below c breaks 8 or 7 (R63)
pub record ClosedBelow (t : Tree) (c : ℕ) : Type 0 where
  pub children : (i : ℕ) → 1 ≤ i → i < c → childless t i ≡ false
  pub shares : (i : ℕ) → 1 ≤ i → i < c → too_heavy t i ≡ false

-- `Row s n p`: refusal n is given at place p (R63)
pub data Row (s : List ℕ) : Refusal → ℕ → Type 0 where
  -- 1: the input ends before the kind byte; the input's length
  row1_before : (k : ℕ) → Reached s k → missing (rest_of s k) ≡ true → Row s Cut (length s)
  -- 2: unknown kind; the record's first byte
  row2 : (k : ℕ) → Reached s k → missing (rest_of s k) ≡ false → unknown Plan (rest_of s k) ≡ true → Row s UnknownKind (after s k)
  -- 1: the input ends inside a body; the record's first byte
  row1_inside : (k : ℕ) → Reached s k → missing (rest_of s k) ≡ false → unknown Plan (rest_of s k) ≡ false → cut (rest_of s k) ≡ true
      → Row s Cut (after s k)
  -- 18: a rule record anywhere but first; the same place
  row18 : (k : ℕ) → WholeRecord s k → late_rule (rest_of s k) (after s k) ≡ true → Row s LateRule (after s k)
  -- 17: rule byte not 1 or 2; the same
  row17 : (k : ℕ) → WholeRecord s k → late_rule (rest_of s k) (after s k) ≡ false → bad_rule (rest_of s k) ≡ true → Row s BadRule (after s k)
  -- 3: a 64th class record; the same
  row3 : (k : ℕ) → ClassRecord s k → too_many (tree_of s (suc k)) ≡ true → Row s TooMany (after s k)
  -- 4: parent not lower than the class, or a leaf; the same
  row4 : (k : ℕ) → ClassRecord s k → too_many (tree_of s (suc k)) ≡ false → bad_parent (tree_of s (suc k)) (suc k) ≡ true → Row s BadParent (after s k)
  -- 5: weight outside its range; the same
  row5 : (k : ℕ)
      → ClassRecord s k
      → too_many (tree_of s (suc k)) ≡ false
      → bad_parent (tree_of s (suc k)) (suc k) ≡ false
      → bad_weight (tree_of s (suc k)) (suc k) ≡ true
      → Row s BadWeight (after s k)
  -- 6: longest outside its range; the same
  row6 : (k : ℕ)
      → ClassRecord s k
      → too_many (tree_of s (suc k)) ≡ false
      → bad_parent (tree_of s (suc k)) (suc k) ≡ false
      → bad_weight (tree_of s (suc k)) (suc k) ≡ false
      → bad_longest (tree_of s (suc k)) (suc k) ≡ true
      → Row s BadLongest (after s k)
  -- 9: no class at all; 0
  row9 : (k : ℕ) → EndRecord s k → no_class (tree_of s k) ≡ true → Row s NoClass 0
  -- 8: inner class without a child; the class
  row8 : (k c : ℕ)
      → EndRecord s k
      → no_class (tree_of s k) ≡ false
      → is_class (tree_of s k) c ≡ true
      → ClosedBelow (tree_of s k) c
      → childless (tree_of s k) c ≡ true
      → Row s Childless c
  -- 7: children's weights exceed their inner parent's; the class
  row7 : (k c : ℕ)
      → EndRecord s k
      → no_class (tree_of s k) ≡ false
      → is_class (tree_of s k) c ≡ true
      → ClosedBelow (tree_of s k) c
      → childless (tree_of s k) c ≡ false
      → too_heavy (tree_of s k) c ≡ true
      → Row s TooHeavy c

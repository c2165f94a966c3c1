-- How long the records of a plan are.
use mathlib.Core.Bool.{Bool, true, false, cond}
use mathlib.Core.List.{[], ◌∷◌, ◌++◌}
use mathlib.Core.Path.{◌≡◌, refl, sym, ap, ap₂, ◌∙◌}
use Prim.Native.Nat.{ℕ, zero, suc, ◌+◌, ◌*◌, ◌-◌, ◌≤◌, ◌<◌}
use native.Mathlib.Decide.{dec_lt}
use native.Mathlib.Numerals.{add-one}
use native.Mathlib.Omega.{arith}
use lib.ListN.{length, length-append}
use borrow.Author.Tests.{ltb-false}
use Rattle.sets.specs.Set.{has}
use Rattle.tree.specs.Rules.{too_many, PlanRules}
use Rattle.tree.specs.declared.Tree.{Tree}
use Rattle.tree.specs.Class.{is_leaf, parent_of, weight_of, longest_of}
use Rattle.written.specs.Bytes.{record_bytes, class_bytes, classes_bytes, rule_bytes, plan_bytes}

pub few_classes : (t : Tree) → PlanRules t → t.count ≤ 63
unfolding too_many
few_classes t r = ltb-false 63 t.count r.few

pub record_length : (leaf : Bool) (p w l : ℕ) → length (record_bytes leaf p w l) ≡ cond leaf 8 6
record_length true p w l = refl
record_length false p w l = refl

pub class_length : (t : Tree) (i : ℕ) → length (class_bytes t i) ≡ cond (is_leaf t i) 8 6
unfolding class_bytes
class_length t i = record_length (is_leaf t i) (parent_of t i) (weight_of t i) (longest_of t i)

-- by what the code reads of the class
pub class_as : (t : Tree) (i : ℕ) (b : Bool) → b ≡ has t.leaves i
    → class_bytes t i ≡ record_bytes b (parent_of t i) (weight_of t i) (longest_of t i)
unfolding class_bytes is_leaf
class_as t i b e = ap (λ (x : Bool). record_bytes x (parent_of t i) (weight_of t i) (longest_of t i)) (sym e)

pub classes_length : (t : Tree) (n : ℕ) → length (classes_bytes t (suc n)) ≡ length (classes_bytes t n) + length (class_bytes t (suc n))
unfolding classes_bytes
classes_length t n = length-append (classes_bytes t n) (class_bytes t (suc n))

-- the records of the classes 1 to n, by the set of leaves alone
unfoldable pub length_to : ℕ → ℕ → ℕ
length_to leaves zero = 0
length_to leaves (suc n) = length_to leaves n + cond (has leaves (suc n)) 8 6

pub length_none : (leaves : ℕ) → length_to leaves 0 ≡ 0
unfolding length_to
length_none leaves = refl

pub length_to_lem : (t : Tree) (n : ℕ) → length (classes_bytes t n) ≡ length_to t.leaves n
unfolding classes_bytes length_to is_leaf
length_to_lem t zero = refl
length_to_lem t (suc n) =
    classes_length t n ∙ ap₂ ◌+◌ (length_to_lem t n) (class_length t (suc n))

pub length_most : (leaves n : ℕ) → length_to leaves n ≤ 8 * n
unfolding length_to
length_most leaves zero = omega arith
length_most leaves (suc n) = go (has leaves (suc n)) (length_most leaves n)
  where
    go : (b : Bool) → length_to leaves n ≤ 8 * n → length_to leaves n + cond b 8 6 ≤ 8 * suc n
    go true h = omega (arith, h)
    go false h = omega (arith, h)

pub length_next : (leaves n : ℕ) → length_to leaves (n + 1) ≡ length_to leaves n + cond (has leaves (n + 1)) 8 6
unfolding length_to
length_next leaves n = rw (add-one n)

-- the last of some classes
pub classes_last : (t : Tree) (n : ℕ) → 1 ≤ n → classes_bytes t n ≡ classes_bytes t (n - 1) ++ class_bytes t n
unfolding classes_bytes
classes_last t zero h = absurd (omega arith)
classes_last t (suc n) h =
    let e : n ≡ suc n - 1 = omega arith in
    ap (λ (k : ℕ). classes_bytes t k ++ class_bytes t (suc n)) e

-- fewer classes are not longer
pub classes_grow : (t : Tree) (i n : ℕ) → i ≤ n → length (classes_bytes t i) ≤ length (classes_bytes t n)
classes_grow t i zero h = let e : i ≡ 0 = omega (arith, h) in rw e (omega arith)
classes_grow t i (suc n) h = go (dec_lt n i) (λ m. classes_grow t i n m)
  where
    go : Dec (n < i) → (i ≤ n → length (classes_bytes t i) ≤ length (classes_bytes t n))
        → length (classes_bytes t i) ≤ length (classes_bytes t (suc n))
    go (yes m) rest = let e : i ≡ suc n = omega (arith, h, m) in rw e (omega arith)
    go (no m) rest = omega (arith, rest (omega (arith, m)), classes_length t n)

pub classes_none : (t : Tree) → classes_bytes t 0 ≡ []
unfolding classes_bytes
classes_none t = refl

pub rule_length : (b : Bool) → length (rule_bytes b) ≡ cond b 2 0
rule_length true = refl
rule_length false = refl

pub plan_as : (t : Tree) → plan_bytes t ≡ rule_bytes t.follows ++ classes_bytes t t.count ++ (0 ∷ [])
unfolding plan_bytes
plan_as t = refl

pub plan_length : (t : Tree) → length (plan_bytes t) ≡ cond t.follows 2 0 + length (classes_bytes t t.count) + 1
unfolding plan_bytes
plan_length t =
    length-append (rule_bytes t.follows ++ classes_bytes t t.count) (0 ∷ [])
    ∙ ap (λ (n : ℕ). n + 1)
    (length-append (rule_bytes t.follows) (classes_bytes t t.count)
    ∙ ap (λ (n : ℕ). n + length (classes_bytes t t.count)) (rule_length t.follows))

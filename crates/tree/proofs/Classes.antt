-- Laws of a tree's classes: which numbers are classes, and what the plan rules say of one class.
use mathlib.Core.Bool.{Bool, true, false, ◌&&◌, ◌||◌, cond}
use mathlib.Core.Path.{◌≡◌, refl}
use Prim.Native.Nat.{ℕ, ◌≤◌, ◌<◌, zero-le}
use lib.Dec.{leb}
use borrow.Author.Tests.{le-leb, lt-leb, leb-true, eq-eqb, ne_eqb}
use Rattle.std.specs.Prelude.{Ok}
use Rattle.tree.specs.declared.Tree.{Tree}
use Rattle.tree.specs.Class.{parent_of, is_class, is_child, of_child}
use Rattle.checks.specs.Check.{first_broken}
use Rattle.checks.proofs.Laws.{passed_parts}
use Rattle.tree.specs.Rules.{bad_parent, bad_weight, bad_longest, childless, too_heavy, class_checks, closing_of}

-- both tests, or one of them
pub both_true : (a b : Bool) → (a && b) ≡ true → (a ≡ true) × (b ≡ true)
both_true true b e = (refl, e)
both_true false b e = (e, (cc))

pub neither_true : (a b : Bool) → (a || b) ≡ false → (a ≡ false) × (b ≡ false)
neither_true true b e = ((cc), (cc))
neither_true false b e = (refl, e)

-- the classes are 1 to count
pub class_in_lem : (t : Tree) (i : ℕ) → 1 ≤ i → i ≤ t.count → is_class t i ≡ true
unfolding is_class
class_in_lem t i l u = rw (le-leb 1 i l, le-leb i t.count u)

pub class_range : (t : Tree) (i : ℕ) → is_class t i ≡ true → (1 ≤ i) × (i ≤ t.count)
unfolding is_class
class_range t i e =
    let h = both_true (leb 1 i) (leb i t.count) e in
    (leb-true 1 i h.0, leb-true i t.count h.1)

pub class_past : (t : Tree) (i : ℕ) → t.count < i → is_class t i ≡ false
unfolding is_class
class_past t i h = go (leb 1 i)
  where
    go : (b : Bool) → (b && leb i t.count) ≡ false
    go true = lt-leb i t.count h
    go false = refl

pub root_no_class : (t : Tree) → is_class t 0 ≡ false
unfolding is_class
root_no_class t = refl

-- sums of weights fit
cond_le : (b : Bool) (x m : ℕ) → x ≤ m → cond b x 0 ≤ m
cond_le true x m h = h
cond_le false x m h = zero-le

pub child_light : (t : Tree) (x : ℕ → ℕ) (p i m : ℕ) → x i ≤ m → of_child t x p i ≤ m
unfolding of_child
child_light t x p i m h = cond_le (is_child t p i) (x i) m h

-- what a class adds to its parent's children, and to any other number's
pub child_own : (t : Tree) (x : ℕ → ℕ) (i : ℕ) → of_child t x (parent_of t i) i ≡ x i
unfolding of_child is_child
child_own t x i = rw (eq-eqb (parent_of t i) (parent_of t i) refl)

pub child_other : (t : Tree) (x : ℕ → ℕ) (i p : ℕ) → (parent_of t i ≡ p → ⊥) → of_child t x p i ≡ 0
unfolding of_child is_child
child_other t x i p ne = rw (ne_eqb (parent_of t i) p ne)

-- where the checks of a class pass none of its numbers is broken
pub class_passed : (t : Tree) (i p : ℕ) → first_broken (class_checks t i p) ≡ Ok tt → (bad_parent t i ≡ false) × (bad_weight t i ≡ false)
    × (bad_longest t i ≡ false)
class_passed t i p e =
    let a = passed_parts _ _ e in
    let b = passed_parts _ _ a.1 in
    (a.0, b.0, (passed_parts _ _ b.1).0)

pub closing_passes : (t : Tree) (i : ℕ) → childless t i ≡ false → too_heavy t i ≡ false → first_broken (closing_of t i) ≡ Ok tt
unfolding first_broken
closing_passes t i a b = rw (a, b)

pub closing_passed : (t : Tree) (i : ℕ) → first_broken (closing_of t i) ≡ Ok tt → (childless t i ≡ false) × (too_heavy t i ≡ false)
closing_passed t i e =
    let a = passed_parts _ _ e in
    (a.0, (passed_parts _ _ a.1).0)

-- What the inner functions of the decision say, of a class number and of all; no rule of its own.
use Rattle.std.specs.Prelude.{true, false, ◌≡◌, ℕ, ◌-◌, ◌≤◌, ◌<◌, Option, is_some, IfSome}
use Rattle.checks.specs.Check.{Exactly}
use Rattle.tree.specs.declared.Tree.{Tree}
use Rattle.units.specs.declared.Bytes.{Bytes}
use Rattle.tree.specs.Class.{parent_of, weight_of, longest_of, is_class, is_leaf, of_child}
use Rattle.tree.specs.Rules.{bad_parent, bad_weight, bad_longest, NothingSet, PlanRules}
use Rattle.tree.specs.Size.{round_size}
use Rattle.tree.specs.Sum.{sum_to}

-- these are the numbers of class number i
pub record Numbers (t : Tree) (i leaves parent weight longest : ℕ) : Type 0 where
  pub leaves_are : t.leaves ≡ leaves
  pub parent_is : parent_of t i ≡ parent
  pub weight_is : weight_of t i ≡ weight
  pub longest_is : longest_of t i ≡ longest

-- nothing is set of class number i
pub record NumberUnset (t : Tree) (i : ℕ) : Type 0 where
  pub nothing : NothingSet t i
  pub longest : longest_of t i ≡ 0

-- nor of the root and the numbers past the last class
pub record RestUnset (t : Tree) : Type 0 where
  pub root : NumberUnset t 0
  pub past : (i : ℕ) → t.count < i → i < 64 → NumberUnset t i

-- an inner class of this weight has no longest packet, and its children weigh this much together
pub record InnerRight (weight longest children : ℕ) : Type 0 where
  pub unset : longest ≡ 0
  pub some : 1 ≤ children
  pub share : children ≤ weight

-- numbers 4, 5 and 6 are not broken at class i, and where it is inner its children weigh this much together
pub record ClassObeys (t : Tree) (i children : ℕ) : Type 0 where
  pub parent : bad_parent t i ≡ false
  pub weight : bad_weight t i ≡ false
  pub longest : bad_longest t i ≡ false
  pub inner : is_leaf t i ≡ false → InnerRight (weight_of t i) (longest_of t i) children

-- what the classes after class i add to its children
abbrev pub children_after : Tree → ℕ → ℕ
children_after t i = sum_to (of_child t (weight_of t) i) t.count - sum_to (of_child t (weight_of t) i) i

pub record ClassesObey (t : Tree) : Type 0 where
  pub at : (i : ℕ) → is_class t i ≡ true → ClassObeys t i (children_after t i)

-- a size is given exactly where a tree obeys the plan rules, and it is its round size
pub record Sizes (t : Tree) (r : Option Bytes) : Type 0 where
  pub right : Exactly (is_some r) (PlanRules t)
  pub size : IfSome r (λ q. q.0 ≡ round_size t)

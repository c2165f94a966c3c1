-- A value stored into one number of a tree, cut to the width of its field, whatever that does to the plan rules. No rule of its own.
use Rattle.std.specs.Prelude.{cond, List, ℕ, ◌%◌, eqb, ltb, set}
use Rattle.units.specs.declared.Weight.{Weight}
use Rattle.tree.specs.declared.Tree.{Tree}
use Rattle.tree.specs.Class.{ruled}

-- the tree with other numbers, its rule as it is
abbrev pub numbered : Tree → ℕ → ℕ → List ℕ → List Weight → List ℕ → Tree
numbered t count leaves parent weight longest = record {
  count = count;
  leaves = leaves;
  parent = parent;
  weight = weight;
  longest = longest;
  follows = t.follows;
}

-- fields 2, 3 and 4, of a class number: its parent, its weight, its longest packet
abbrev pub stored_at : Tree → ℕ → ℕ → ℕ → Tree
stored_at t field i value =
    cond (eqb field 2) (numbered t t.count t.leaves (set t.parent i (value % 256)) t.weight t.longest)
    (cond (eqb field 3)
    (numbered t t.count t.leaves t.parent (set t.weight i (record { 0 = value % 4_294_967_296 })) t.longest)
    (numbered t t.count t.leaves t.parent t.weight (set t.longest i (value % 65_536))))

-- fields 0, 1 and 14: the count of classes, the set of leaves, the rule, 2 or any other value for rule 1. A number past 63 is none
abbrev pub stored : Tree → ℕ → ℕ → ℕ → Tree
stored t field i value =
    cond (eqb field 0) (numbered t value t.leaves t.parent t.weight t.longest)
    (cond (eqb field 1) (numbered t t.count value t.parent t.weight t.longest)
    (cond (eqb field 14) (ruled t (eqb value 2))
    (cond (ltb 63 i) t (stored_at t field i value))))

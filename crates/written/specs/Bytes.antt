-- The bytes of a tree: each class's record, before them a rule record for rule 2 only, after them the end record (R258, R259). Demand 1.
use Rattle.std.specs.Prelude.{Bool, cond, List, [], ◌∷◌, ◌++◌, ℕ, zero, suc, ◌/◌, ◌%◌}
use Rattle.tree.specs.declared.Tree.{Tree}
use Rattle.tree.specs.Class.{parent_of, weight_of, longest_of, is_leaf}

-- numbers are big-endian (R48, R259)
abbrev pub bytes16 : ℕ → List ℕ
bytes16 n = n / 256 ∷ n % 256 ∷ []

abbrev pub bytes32 : ℕ → List ℕ
bytes32 n = n / 16_777_216 ∷ n / 65_536 % 256 ∷ n / 256 % 256 ∷ n % 256 ∷ []

-- an inner class: kind 1, parent 1, weight 4; a leaf: kind 2, parent 1, weight 4, longest 2 (R42, R43, R259)
abbrev pub inner_bytes : ℕ → ℕ → List ℕ
inner_bytes parent weight = 1 ∷ parent ∷ bytes32 weight

abbrev pub leaf_bytes : ℕ → ℕ → ℕ → List ℕ
leaf_bytes parent weight longest = 2 ∷ parent ∷ bytes32 weight ++ bytes16 longest

abbrev pub record_bytes : Bool → ℕ → ℕ → ℕ → List ℕ
record_bytes leaf parent weight longest = cond leaf (leaf_bytes parent weight longest) (inner_bytes parent weight)

-- the record of class i (R259)
unfoldable pub class_bytes : Tree → ℕ → List ℕ
class_bytes t i = record_bytes (is_leaf t i) (parent_of t i) (weight_of t i) (longest_of t i)

-- the records of the classes 1 to n, in class order (R258)
unfoldable pub classes_bytes : Tree → ℕ → List ℕ
classes_bytes t zero = []
classes_bytes t (suc n) = classes_bytes t n ++ class_bytes t (suc n)

-- the rule record, kind 3, is written for rule 2 only (R221, R258)
abbrev pub rule_bytes : Bool → List ℕ
rule_bytes follows = cond follows (3 ∷ 2 ∷ []) []

-- the whole plan; the end record is kind 0 without a body (R41, R258)
unfoldable pub plan_bytes : Tree → List ℕ
plan_bytes t = rule_bytes t.follows ++ classes_bytes t t.count ++ (0 ∷ [])

-- The record of a kind from its numbers, in the 8 bytes that the longest has: 0 stands after a shorter one. Nobody has judged the numbers;
-- that is the reader's. Demand 1.
use Rattle.std.specs.Prelude.{cond, List, [], ◌∷◌, ◌++◌, ℕ, eqb, replicate}
use Rattle.written.specs.Bytes.{bytes16, bytes32, inner_bytes, leaf_bytes}

-- an arrival: kind 16, class 1, length 2, tag 4
abbrev pub arrival_bytes : ℕ → ℕ → ℕ → List ℕ
arrival_bytes class len tag = 16 ∷ class ∷ bytes16 len ++ bytes32 tag

-- how many bytes a kind's record has; of any other kind none
unfoldable pub length_of : ℕ → ℕ
length_of kind =
    cond (eqb kind 0) 1
    (cond (eqb kind 1) 6 (cond (eqb kind 2) 8 (cond (eqb kind 3) 2 (cond (eqb kind 16) 8 (cond (eqb kind 17) 1 0)))))

-- the record: of an inner class or a leaf the parent a, the weight b and the longest c; of a rule the rule a; of an arrival the class a,
-- the tag b and the length c; of any other kind that alone
unfoldable pub record_of : ℕ → ℕ → ℕ → ℕ → List ℕ
record_of kind a b c =
    cond (eqb kind 1) (inner_bytes a b ++ (0 ∷ 0 ∷ []))
    (cond (eqb kind 2) (leaf_bytes a b c)
    (cond (eqb kind 3) (3 ∷ a ∷ replicate 6 0) (cond (eqb kind 16) (arrival_bytes a c b) (kind ∷ replicate 7 0))))

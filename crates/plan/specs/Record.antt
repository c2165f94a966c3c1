-- One record: one byte of kind, then a body whose length the kind fixes (R42 to R55). Demand 1.
-- A record is read off the rest of the input, which begins with the record's first byte.
use Rattle.std.specs.Prelude.{Bool, true, false, cond, ◌&&◌, ◌||◌, not, List, ℕ, ◌+◌, ◌*◌, eqb, ltb, length, get_or, take, drop}
use Rattle.tree.specs.declared.Class.{Class}
use Rattle.plan.specs.declared.kind.RecordKind.{RecordKind}
use Rattle.plan.specs.declared.kind.Section.{Section}
use Rattle.plan.specs.Kind.{record_kind, stands_in, gives_leaf, gives_rule}

-- numbers are big-endian (R48)
abbrev pub byte_at : List ℕ → ℕ → ℕ
byte_at s k = get_or s k 0

abbrev pub number16 : List ℕ → ℕ → ℕ
number16 s k = byte_at s k * 256 + byte_at s (k + 1)

abbrev pub number32 : List ℕ → ℕ → ℕ
number32 s k = byte_at s k * 16_777_216 + byte_at s (k + 1) * 65_536 + byte_at s (k + 2) * 256 + byte_at s (k + 3)

-- the kind of the record
unfoldable pub kind_at : List ℕ → RecordKind
kind_at rest = record_kind (byte_at rest 0)

-- 1: the input ends before the kind byte (R53)
unfoldable pub missing : List ℕ → Bool
missing rest = eqb (length rest) 0

-- 2: unknown kind (R54)
unfoldable pub unknown : Section → List ℕ → Bool
unknown section rest = not (stands_in section (kind_at rest))

-- 1: the input ends inside the body (R55)
unfoldable pub cut : List ℕ → Bool
cut rest = ltb (length rest) (1 + (kind_at rest).body)

-- the body is the part after the kind byte (R49)
unfoldable pub body_of : List ℕ → List ℕ
body_of rest = take (kind_at rest).body (drop 1 rest)

-- the rule of a rule record's body: 1, whole tree, or 2, active classes (R221, R222)
unfoldable pub rule_of : List ℕ → ℕ
rule_of rest = byte_at (body_of rest) 0

-- 18: a rule record anywhere but first; the first record stands at 0 (R224)
unfoldable pub late_rule : List ℕ → ℕ → Bool
late_rule rest place = gives_rule (kind_at rest) && not (eqb place 0)

-- 17: rule byte not 1 or 2 (R225)
unfoldable pub bad_rule : List ℕ → Bool
bad_rule rest = gives_rule (kind_at rest) && not (eqb (rule_of rest) 1 || eqb (rule_of rest) 2)

-- the class of a body: parent 1, weight 4, and of a leaf longest 2 (R35, R42, R43)
abbrev pub inner_class : List ℕ → Class
inner_class body = record { parent = byte_at body 0; weight = record { 0 = number32 body 1 }; longest = 0; leaf = false }

abbrev pub leaf_class : List ℕ → Class
leaf_class body = record { parent = byte_at body 0; weight = record { 0 = number32 body 1 }; longest = number16 body 5; leaf = true }

abbrev pub class_of : Bool → List ℕ → Class
class_of leaf body = cond leaf (leaf_class body) (inner_class body)

-- the class that a class record gives (R51)
unfoldable pub class_at : List ℕ → Class
class_at rest = class_of (gives_leaf (kind_at rest)) (body_of rest)

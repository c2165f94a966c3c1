-- What the reader says of any bytes: class records and one end record, at most one rule record before them, checked in a fixed order
-- (R50 to R62, R221 to R225). Demand 1.
use Rattle.checks.specs.declared.Refusal.TheVariants.{Cut, UnknownKind, TooMany, BadRule, LateRule}
use Rattle.std.specs.Prelude.{Bool, cond, ◌&&◌, List, [], ◌∷◌, ◌++◌, ℕ, zero, suc, ◌+◌, eqb, length, drop, Ok, Err}
use Rattle.checks.specs.Check.{Check, check, first_broken, passed, Verdict}
use Rattle.tree.specs.declared.Tree.{Tree}
use Rattle.tree.specs.Class.{no_tree, ruled, added}
use Rattle.tree.specs.Rules.{too_many, class_checks, closing_checks}
use Rattle.plan.specs.declared.PlanRead.{PlanRead}
use Rattle.plan.specs.declared.kind.Section.TheVariants.{Plan}
use Rattle.plan.specs.Kind.{gives_class, gives_rule}
use Rattle.plan.specs.Record.{kind_at, missing, unknown, cut, late_rule, bad_rule, rule_of, class_at}

-- the record at a place (the first stands at 0) is checked in the order 2, 1, 18, 17, 3, 4, 5, 6; a missing kind byte is 1, at the input's
-- length (R53 to R55, R58)
abbrev pub head_checks : List ℕ → ℕ → List Check
head_checks input place =
    let rest = drop place input in
    check Cut (missing rest) (length input) ∷ check UnknownKind (unknown Plan rest) place ∷ check Cut (cut rest) place ∷ []

-- then 18 and 17 (R58, R224, R225)
abbrev pub rule_checks : List ℕ → ℕ → List Check
rule_checks rest place = check LateRule (late_rule rest place) place ∷ check BadRule (bad_rule rest) place ∷ []

-- t is the tree with the class that the record gives, its last (R56 to R58)
abbrev pub new_class_checks : Tree → ℕ → List Check
new_class_checks t place = check TooMany (too_many t) place ∷ class_checks t t.count place

-- what a whole record is checked for (R56 to R58)
abbrev pub whole_checks : List ℕ → ℕ → Tree → List Check
whole_checks rest place tree =
    rule_checks rest place ++ cond (gives_class (kind_at rest)) (new_class_checks (added tree (class_at rest)) place) []

unfoldable pub record_checks : List ℕ → ℕ → Tree → List Check
record_checks input place tree = head_checks input place ++ whole_checks (drop place input) place tree

-- a plan begins with a rule record that breaks nothing (R223)
unfoldable pub rule_first : List ℕ → Bool
rule_first input = gives_rule (kind_at input) && passed (first_broken (head_checks input 0 ++ rule_checks input 0))

-- the first byte after the rule record, where there is one, and the first k class records (R52, R223)
unfoldable pub after : List ℕ → ℕ → ℕ
after input zero = cond (rule_first input) (1 + (kind_at input).body) 0
after input (suc k) = after input k + 1 + (kind_at (drop (after input k) input)).body

-- the rule is 2; a plan without a rule record uses rule 1 (R222)
unfoldable pub follows_of : List ℕ → Bool
follows_of input = rule_first input && eqb (rule_of input) 2

-- the tree of the first k class records: the classes 1 to k, in plan order, and the rule (R22, R51, R222)
unfoldable pub tree_of : List ℕ → ℕ → Tree
tree_of input zero = ruled no_tree (follows_of input)
tree_of input (suc k) = added (tree_of input k) (class_at (drop (after input k) input))

-- the checks of the record after the first k class records (R59)
abbrev pub checks_of : List ℕ → ℕ → List Check
checks_of input k = record_checks input (after input k) (tree_of input k)

-- that record gives a class and breaks no rule (R59)
unfoldable pub passes : List ℕ → ℕ → Bool
passes input k = gives_class (kind_at (drop (after input k) input)) && passed (first_broken (checks_of input k))

-- how many of f 0, f 1, .. f (n - 1) hold in a row, from f 0 on (R59)
unfoldable pub in_row : (ℕ → Bool) → ℕ → ℕ
in_row f zero = 0
in_row f (suc n) = let k = in_row f n in cond (eqb k n && f n) (suc n) k

-- how many class records are passed over; the record after them decides (R50, R59)
unfoldable pub passed_over : List ℕ → ℕ
passed_over input = in_row (passes input) 63

-- its checks, and after the end record the closing ones (R50, R59, R60)
unfoldable pub deciding_checks : List ℕ → ℕ → List Check
deciding_checks input k = checks_of input k ++ closing_checks (tree_of input k)

-- an accepted plan gives its tree and the bytes used; a refused one number, place, 0 bytes used and the tree without classes
-- (R61, R62, R163)
abbrev pub outcome : Verdict → Tree → ℕ → PlanRead
outcome (Ok _) tree used = record { verdict = Ok tt; used = used; tree = tree }
outcome (Err e) tree used = record { verdict = Err e; used = 0; tree = no_tree }

-- the whole plan (R50, R61)
unfoldable pub plan_of : List ℕ → PlanRead
plan_of input =
    let k = passed_over input in
    outcome (first_broken (deciding_checks input k)) (tree_of input k) (after input k + 1)

-- the same in two halves (`plan_halves`, proofs/Reading). First the records alone, with no check after the end record
unfoldable pub records_of : List ℕ → PlanRead
records_of input =
    let k = passed_over input in
    outcome (first_broken (checks_of input k)) (tree_of input k) (after input k + 1)

-- then closing: records that broke no rule go on to 9, 8 and 7
abbrev pub closed_by : Verdict → PlanRead → PlanRead
closed_by (Ok _) r = outcome (first_broken (closing_checks r.tree)) r.tree r.used
closed_by (Err _) r = r

abbrev pub closed : PlanRead → PlanRead
closed r = closed_by r.verdict r

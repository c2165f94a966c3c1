-- What the inner functions of the reader say, in terms of the rules; no rule of its own.
use Rattle.checks.specs.declared.Refused.{Refused}
use Rattle.checks.specs.declared.Refusal.TheVariants.{BadRule, LateRule}
use Rattle.std.specs.Prelude.{true, false, cond, List, ◌≡◌, ℕ, ◌+◌, ◌≤◌, eqb, length, drop, Option, None, Some, Result, Ok, Err}
use Rattle.checks.specs.Check.{first_broken}
use Rattle.tree.specs.declared.Tree.{Tree}
use Rattle.tree.specs.declared.Class.{Class}
use Rattle.tree.specs.Class.{added}
use Rattle.plan.specs.declared.Arrived.{Arrived}
use Rattle.plan.specs.declared.kind.RecordKind.{RecordKind}
use Rattle.plan.specs.declared.kind.Section.{Section}
use Rattle.plan.specs.declared.record.HeadFault.{HeadFault}
use Rattle.plan.specs.declared.record.HeadFault.TheVariants.{NoKindByte, StrangeKind, CutBody}
use Rattle.plan.specs.Kind.{gives_class, gives_rule}
use Rattle.plan.specs.Record.{byte_at, number16, number32, kind_at, missing, unknown, cut, late_rule, bad_rule, class_at}
use Rattle.plan.specs.Reader.{record_checks, whole_checks, new_class_checks}

-- the head of a record: the first of the numbers 1, 2, 1 that is broken, or the kind
abbrev pub HeadSays : Section → List ℕ → Result RecordKind HeadFault → Type 0
HeadSays section rest (Err NoKindByte) = missing rest ≡ true
HeadSays section rest (Err StrangeKind) = (missing rest ≡ false) × (unknown section rest ≡ true)
HeadSays section rest (Err CutBody) = (missing rest ≡ false) × (unknown section rest ≡ false) × (cut rest ≡ true)
HeadSays section rest (Ok k) = (missing rest ≡ false) × (unknown section rest ≡ false) × (cut rest ≡ false) × (k ≡ kind_at rest)

-- how reading goes on after a record: onward at a place, nowhere after the end record, or refused
abbrev pub Following : Type 0
Following = Result (Option ℕ) Refused

-- a class put to a tree, at its record's place: refused by the first broken check, or taken
abbrev pub ClassSays : Tree → Class → ℕ → ℕ → Tree → Following → Type 0
ClassSays t c place to t' (Err e) = first_broken (new_class_checks (added t c) place) ≡ Err e
ClassSays t c place to t' (Ok None) = ⊥
ClassSays t c place to t' (Ok (Some next)) = (first_broken (new_class_checks (added t c) place) ≡ Ok tt) × (next ≡ to) × (t' ≡ added t c)

-- a whole record that gives no class: a rule record, which stops the reader, or the end record
abbrev pub PlainSays : RecordKind → ℕ → Following → Type 0
PlainSays k place (Err e) = (gives_rule k ≡ true) × (e.0 ≡ cond (eqb place 0) BadRule LateRule) × (e.1 ≡ place)
PlainSays k place (Ok None) = gives_rule k ≡ false
PlainSays k place (Ok (Some next)) = ⊥

-- a rule record that stands here breaks 18 or 17: one that breaks neither was read before the others
abbrev pub RuleStops : List ℕ → ℕ → Type 0
RuleStops rest place = gives_rule (kind_at rest) ≡ true → late_rule rest place ≡ false → bad_rule rest ≡ true

-- a whole record at a place: refused, a class put to the tree, or the end of the plan
abbrev pub WholeSays : List ℕ → ℕ → Tree → Tree → Following → Type 0
WholeSays rest place t t' (Err e) = first_broken (whole_checks rest place t) ≡ Err e
WholeSays rest place t t' (Ok None) = (gives_class (kind_at rest) ≡ false) × (gives_rule (kind_at rest) ≡ false)
WholeSays rest place t t' (Ok (Some next)) =
    (gives_class (kind_at rest) ≡ true)
    × (first_broken (new_class_checks (added t (class_at rest)) place) ≡ Ok tt)
    × (next ≡ place + 1 + (kind_at rest).body)
    × (next ≤ place + length rest)
    × (t' ≡ added t (class_at rest))

-- the record at a place, put to the tree so far: refused, the end record, or a class more and the place of the next record
abbrev pub StepSays : List ℕ → ℕ → Tree → Tree → Following → Type 0
StepSays input place t t' (Err e) = first_broken (record_checks input place t) ≡ Err e
StepSays input place t t' (Ok None) =
    (first_broken (record_checks input place t) ≡ Ok tt) × (gives_class (kind_at (drop place input)) ≡ false) × (place + 1 ≤ length input)
StepSays input place t t' (Ok (Some next)) =
    (first_broken (record_checks input place t) ≡ Ok tt)
    × (gives_class (kind_at (drop place input)) ≡ true)
    × (next ≡ place + 1 + (kind_at (drop place input)).body)
    × (next ≤ length input)
    × (t' ≡ added t (class_at (drop place input)))

-- an arrival's body where it lies: class 1, length 2, tag 4
abbrev pub arrived_at : List ℕ → ℕ → Arrived
arrived_at s at = record { class = byte_at s at; length = number16 s (at + 1); tag = number32 s (at + 3) }

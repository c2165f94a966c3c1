-- `reader::whole_rule` meets its contract.
use mathlib.Core.Bool.{true, false}
use mathlib.Core.List.{List}
use mathlib.Core.Logic.{inl, inr}
use mathlib.Core.Path.{◌≡◌, sym, ap, ◌∙◌}
use Prim.Native.Nat.{ℕ, ◌+◌}
use native.Mathlib.Omega.{arith}
use lib.ListN.{length}
use Rattle.checks.proofs.Laws.{not_true_and_false}
use Rattle.plan.specs.declared.kind.RecordKind.{RecordKind}
use Rattle.plan.specs.Kind.{gives_rule}
use Rattle.plan.specs.Record.{byte_at, kind_at, rule_of, bad_rule}
use Rattle.plan.proofs.Records.{body_part, body_length, whole_length, rule_body, rule_right, rule_bad}
use Rattle.plan.proofs.Reading.{opening_none, opening_rule, RuleRecord}
use Rattle.plan.proofs.reader.whole_rule.Goals as goal
use Rattle.plan.proofs.reader.whole_rule.Goals.{After-read_rule-rule, After-record_length-end, Else-not-gives_rule}

-- the end of the record, as its kind says
end_of : (c : After-record_length-end) → c.record_length-end.result ≡ 1 + (kind_at c.args.input.now).body
end_of c = c.record_length-end.ensures.0 ∙ ap (λ (k : RecordKind). 1 + k.body) c.requires.3

-- it gives a rule
gives : (c : Else-not-gives_rule) → gives_rule (kind_at c.args.input.now) ≡ true
gives c = ap gives_rule (sym c.requires.3) ∙ sym c.gives_rule.ensures ∙ c.if-not-gives_rule.false

-- and that rule was read
rule_read : (c : After-read_rule-rule) → c.read_rule-rule.result ≡ rule_of c.args.input.now
unfolding rule_of
rule_read c =
    c.read_rule-rule.ensures
    ∙ ap (λ (x : List ℕ). byte_at x 0) (body_part c.args.input.now c.record_length-end.result
    (end_of (goal.at.After-read_rule-rule c).After-record_length-end))

-- with this rule it breaks no number
right : (c : After-read_rule-rule) → bad_rule c.args.input.now ≡ false
    → RuleRecord c.args.input.now
right c e =
    record { gives = gives (goal.at.After-read_rule-rule c).Else-not-gives_rule; there = c.requires.0; known = c.requires.1; whole = c.requires.2; right = e }

pub returns-then-not-gives_rule : goal.returns-then-not-gives_rule
returns-then-not-gives_rule c =
    let off = ap gives_rule (sym c.requires.3) ∙ sym c.gives_rule.ensures ∙ c.if-not-gives_rule.true in
    opening_none _ (λ r. not_true_and_false r.gives off)

pub slice_bounds-read_rule-end : goal.slice_bounds-read_rule-end
slice_bounds-read_rule-end c =
    omega (arith, end_of c, whole_length c.args.input.now c.requires.2)

pub read_rule-rule-requires : goal.read_rule-rule-requires
read_rule-rule-requires c =
    let s = c.args.input.now in
    ap length (body_part s c.record_length-end.result (end_of (goal.at.read_rule-rule-requires c).After-record_length-end)) ∙ body_length s c.requires.2 ∙ rule_body s (gives (goal.at.read_rule-rule-requires c).Else-not-gives_rule)

pub returns-in-1 : goal.returns-in-1
returns-in-1 c =
    let is = sym (rule_read (goal.at.returns-in-1 c).After-read_rule-rule) ∙ c.in-1.is in
    opening_rule _ _ _ (right (goal.at.returns-in-1 c).After-read_rule-rule (rule_right _ (inl is))) (end_of (goal.at.returns-in-1 c).After-record_length-end) (rw is)

pub returns-in-2 : goal.returns-in-2
returns-in-2 c =
    let is = sym (rule_read (goal.at.returns-in-2 c).After-read_rule-rule) ∙ c.in-2.is in
    opening_rule _ _ _ (right (goal.at.returns-in-2 c).After-read_rule-rule (rule_right _ (inr is))) (end_of (goal.at.returns-in-2 c).After-record_length-end) (rw is)

pub returns-in_default : goal.returns-in_default
returns-in_default c =
    let bad =
    rule_bad _ (gives (goal.at.returns-in_default c).Else-not-gives_rule) (λ z. c.in_default.in_default-own.rest.0.1 (rule_read (goal.at.returns-in_default c).After-read_rule-rule ∙ z)) (λ z. c.in_default.in_default-own.rest.1 (rule_read (goal.at.returns-in_default c).After-read_rule-rule ∙ z))
    in
    opening_none _ (λ r. not_true_and_false bad r.right)

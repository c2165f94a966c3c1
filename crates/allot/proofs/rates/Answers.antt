-- `allot::rates` meets its contract: 11, then 20, then 21, else the rates.
use mathlib.Core.Bool.{not}
use mathlib.Core.Path.{sym, ap, ◌∙◌}
use Rattle.checks.proofs.Laws.{decides, pass_over}
use Rattle.tree.proofs.Rules.{few_classes}
use Rattle.allot.specs.Answer.{nothing_allotted}
use Rattle.allot.proofs.Answers.{refused_rates, allotted_rates, passed_in_range}
use Rattle.allot.proofs.rates.Goals as goal

pub returns-then-not-is_plan : goal.returns-then-not-is_plan
returns-then-not-is_plan c =
    let a = c.args in
    refused_rates a.tree a.capacity a.requests c.is_plan.result c.is_plan.ensures _ _ c.nothing_allotted.result
    (sym (decides _ _ (ap not c.if-not-is_plan.true)))
    c.nothing_allotted.ensures

pub range_fault-v-requires : goal.range_fault-v-requires
range_fault-v-requires c =
    few_classes c.args.tree (c.is_plan.ensures.sound c.if-not-is_plan.false)

pub returns-in-Err : goal.returns-in-Err
returns-in-Err c =
    let a = c.args in
    let said = c.in-Err.is in
    refused_rates a.tree a.capacity a.requests c.is_plan.result c.is_plan.ensures _ _ c.nothing_allotted-in-Err.result
    (sym said ∙ c.range_fault-v.ensures ∙ sym (pass_over _ _ (ap not c.if-not-is_plan.false)))
    (c.nothing_allotted-in-Err.ensures ∙ ap nothing_allotted said)

pub allot-requires : goal.allot-requires
allot-requires c =
    let a = c.args in
    passed_in_range a.tree a.capacity a.requests
    (c.is_plan.ensures.sound c.if-not-is_plan.false)
    (sym c.range_fault-v.ensures ∙ c.in_default.is)

pub returns : goal.returns
returns c =
    let a = c.args in
    allotted_rates a.tree a.capacity a.requests c.is_plan.result c.is_plan.ensures c.allot.result
    (pass_over _ _ (ap not c.if-not-is_plan.false) ∙ sym c.range_fault-v.ensures ∙ c.in_default.is)
    c.allot.ensures.0
    c.allot.ensures.1

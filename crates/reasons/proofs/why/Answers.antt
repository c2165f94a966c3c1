-- `reasons::why` meets its contract: 11, then 12, else the reason.
use mathlib.Core.Path.{sym, ap, ◌∙◌}
use mathlib.Core.Bool.{not}
use Rattle.checks.specs.declared.Refusal.TheVariants.{NoLeaf, NotSound}
use Rattle.checks.proofs.Laws.{decides, pass_over, none_broken}
use Rattle.tree.specs.Class.{is_leaf}
use Rattle.calls.specs.Arrival.{no_leaf}
use Rattle.reasons.proofs.Answers.{refused_why, told_why}
use Rattle.reasons.proofs.why.Goals as goal

pub returns-then-not-is_sound : goal.returns-then-not-is_sound
returns-then-not-is_sound c =
    refused_why c.args.link c.args.class c.is_sound.result c.is_sound.ensures NotSound 0
    (decides _ _ (ap not c.if-not-is_sound.true))

pub returns-then-not-holds : goal.returns-then-not-holds
unfolding no_leaf is_leaf
returns-then-not-holds c =
    refused_why c.args.link c.args.class c.is_sound.result c.is_sound.ensures NoLeaf c.args.class
    (pass_over _ _ (ap not c.if-not-is_sound.false) ∙ decides _ _ (ap not (sym c.holds.ensures.0) ∙ (ap not c.if-not-holds.true)))

pub reason_of-reason-requires : goal.reason_of-reason-requires
unfolding is_leaf
reason_of-reason-requires c =
    (c.is_sound.ensures.sound c.if-not-is_sound.false, sym c.holds.ensures.0 ∙ c.if-not-holds.false)

pub returns : goal.returns
unfolding no_leaf is_leaf
returns c =
    told_why c.args.link c.args.class c.is_sound.result c.is_sound.ensures c.reason_of-reason.result
    (pass_over _ _ (ap not c.if-not-is_sound.false) ∙ pass_over _ _ (ap not (sym c.holds.ensures.0) ∙ (ap not c.if-not-holds.false)) ∙ none_broken)
    c.reason_of-reason.ensures

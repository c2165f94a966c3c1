-- `class_rules::class_fault` meets its contract: numbers 4, 5 and 6 in this order.
use mathlib.Core.Path.{◌≡◌, refl, sym, ◌∙◌}
use Rattle.checks.proofs.Laws.{decides, pass_over, none_broken}
use Rattle.tree.specs.Class.{is_leaf}
use Rattle.tree.specs.Rules.{bad_parent, bad_weight, bad_longest}
use Rattle.tree.proofs.class_rules.class_fault.Goals as goal
use Rattle.tree.proofs.class_rules.class_fault.Goals.{After-bad_longest-longest}

-- what the three calls said
said : (c : After-bad_longest-longest)
    → (c.bad_parent-parent.result
    ≡ bad_parent c.args.tree
    c.args.i)
    × (c.bad_weight-weight.result
    ≡ bad_weight c.args.tree
    c.args.i)
    × (c.bad_longest-longest.result ≡ bad_longest c.args.tree
    c.args.i)
unfolding is_leaf
said c = (
  c.bad_parent-parent.ensures _ refl (sym c.from.ensures),
  c.bad_weight-weight.ensures _ _ (sym c.from-2.ensures),
  c.bad_longest-longest.ensures.0 _ _ (sym c.has.ensures) (sym c.from-3.ensures),
)

pub returns-then-parent : goal.returns-then-parent
returns-then-parent c = sym (decides _ _ (sym (said c.before).0 ∙ c.if-parent.true))

pub returns-then-weight : goal.returns-then-weight
returns-then-weight c =
    let s = said c.before.before in
    sym (pass_over _ _ (sym s.0 ∙ c.if-parent.false) ∙ decides _ _ (sym s.1 ∙ c.if-weight.true))

pub returns-then-longest : goal.returns-then-longest
returns-then-longest c =
    let s = said c.before.before.before in
    sym
    (pass_over _ _ (sym s.0 ∙ c.if-parent.false)
    ∙ pass_over _ _ (sym s.1 ∙ c.if-weight.false)
    ∙ decides _ _ (sym s.2 ∙ c.if-longest.true))

pub returns : goal.returns
returns c =
    let s = said c.before.before.before in
    sym
    (pass_over _ _ (sym s.0 ∙ c.if-parent.false)
    ∙ pass_over _ _ (sym s.1 ∙ c.if-weight.false)
    ∙ pass_over _ _ (sym s.2 ∙ c.if-longest.false)
    ∙ none_broken)

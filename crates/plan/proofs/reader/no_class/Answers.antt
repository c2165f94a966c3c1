-- `reader::no_class` meets its contract: 17 at the start, 18 anywhere else.
use mathlib.Core.Path.{sym, refl, ◌∙◌}
use borrow.Author.Tests.{eq-eqb, ne_eqb}
use Rattle.plan.proofs.reader.no_class.Goals as goal

pub returns-then-not-gives_rule : goal.returns-then-not-gives_rule
returns-then-not-gives_rule c = sym c.gives_rule.ensures ∙ c.if-not-gives_rule.true

pub returns-then-place-eq0 : goal.returns-then-place-eq0
returns-then-place-eq0 c =
    (sym c.gives_rule.ensures ∙ c.if-not-gives_rule.false, rw (eq-eqb _ _ c.if-place-eq0.true) refl, refl)

pub returns : goal.returns
returns c =
    (sym c.gives_rule.ensures ∙ c.if-not-gives_rule.false, rw (ne_eqb _ _ c.if-place-eq0.false) refl, refl)

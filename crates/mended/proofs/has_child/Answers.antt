-- `mend::has_child` meets its contract.
use mathlib.Core.Path.{sym, ◌∙◌}
use native.Mathlib.Omega.{arith}
use borrow.Author.Tests.{eq-eqb, ne_eqb}
use Rattle.tree.specs.Class.{is_child, has_child}
use Rattle.tree.proofs.Sums.{some_found, none_more, some_never}
use Rattle.mended.proofs.has_child.Goals as goal

pub returns-then-from-p : goal.returns-then-from-p
unfolding has_child is_child
returns-then-from-p c =
    let a = c.args in
    sym (some_found (is_child a.tree a.p) a.tree.count c.loop-i.i c.loop-i.invariant.0 c.loop-i-test.true
    (eq-eqb _ _ (sym c.from.ensures ∙ c.if-from-p.true)))

pub loop-i-preserved : goal.loop-i-preserved
unfolding is_child
loop-i-preserved c =
    let a = c.args in (
      omega arith,
      omega (arith, c.loop-i-test.true),
      none_more (is_child a.tree a.p) c.loop-i.i c.loop-i.invariant.2 (ne_eqb _ _ (λ e. c.if-from-p.false (c.from.ensures ∙ e))),
    )

pub returns-else-from-p : goal.returns-else-from-p
unfolding has_child is_child
returns-else-from-p c =
    let a = c.args in
    let none = none_more (is_child a.tree a.p) c.loop-i.i c.loop-i.invariant.2 (ne_eqb _ _ (λ e. c.if-from-p.false (c.from.ensures ∙ e))) in
    sym (some_never (is_child a.tree a.p) a.tree.count (λ k l u. none k l (omega arith)))

pub returns : goal.returns
unfolding has_child
returns c =
    let a = c.args in
    sym (some_never (is_child a.tree a.p) a.tree.count (λ k l u. c.loop-i.invariant.2 k l (omega arith)))

-- `size::rest_unset` meets its contract.
use native.Mathlib.Omega.{arith}
use borrow.Author.Count.{below_more}
use Rattle.checks.proofs.Laws.{exactly_yes, exactly_no, not_true_and_false}
use Rattle.shape.proofs.size.rest_unset.Goals as goal

pub returns-then-not-unset_at : goal.returns-then-not-unset_at
returns-then-not-unset_at c =
    exactly_no (λ p. not_true_and_false (c.unset_at.ensures.complete p.root) c.if-not-unset_at.true)

pub loop-i-init : goal.loop-i-init
loop-i-init c =
    let e = c.count-i.ensures in
    (omega (arith, e), omega (arith, e, c.requires), λ k u l. absurd (omega (arith, u, l, e)))

pub returns-then-not-unset_at-2 : goal.returns-then-not-unset_at-2
returns-then-not-unset_at-2 c =
    exactly_no (λ p. not_true_and_false (c.unset_at-in-loop-i.ensures.complete (p.past c.loop-i.i c.loop-i.invariant.0
    (omega (arith, c.loop-i-test.true)))) c.if-not-unset_at-2.true)

pub loop-i-preserved : goal.loop-i-preserved
loop-i-preserved c = (
  omega (arith, c.loop-i.invariant.0),
  omega (arith, c.loop-i-test.true),
  below_more _ _ c.loop-i.invariant.2 (λ l. c.unset_at-in-loop-i.ensures.sound c.if-not-unset_at-2.false),
)

pub returns : goal.returns
returns c =
    exactly_yes (record {
      root = c.unset_at.ensures.sound c.if-not-unset_at.false;
      past = λ k l u. c.loop-i.invariant.2 k (omega (arith, u, c.loop-i-test.false)) l;
    })

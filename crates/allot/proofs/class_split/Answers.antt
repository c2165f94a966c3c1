-- `allot::class_split` meets its contract.
use mathlib.Core.Path.{refl, sym, ◌∙◌}
use native.Mathlib.Omega.{arith}
use Rattle.checks.proofs.Laws.{not_true_and_false}
use Rattle.tree.specs.Class.{is_leaf}
use Rattle.allot.proofs.class_split.Goals as goal

pub returns-then-has : goal.returns-then-has
unfolding is_leaf
returns-then-has c =
    let leaf = sym c.has.ensures ∙ c.if-has.true in
    record {
      leaf = λ e. refl;
      met = λ l. refl;
      unmet = λ e l. absurd (not_true_and_false leaf e);
      rest = λ e l. absurd (not_true_and_false leaf e);
      small = omega arith;
    }

pub fair_share-f-requires : goal.fair_share-f-requires
unfolding is_leaf
fair_share-f-requires c =
    let above = sym c.has.ensures ∙ c.if-has.false in
    (c.requires.0, omega (arith, c.requires.0.sums c.args.p c.requires.2 above, c.if-requests-p.false), c.requires.3)

pub returns : goal.returns
unfolding is_leaf
returns c =
    let f = c.fair_share-f.ensures in
    let above = sym c.has.ensures ∙ c.if-has.false in
    record {
      leaf = λ e. absurd (not_true_and_false e above);
      met = λ l. absurd (omega (arith, c.if-requests-p.false));
      unmet = λ e l. f.0;
      rest = λ e l. omega (arith, c.children_get.ensures, f.0.holds);
      small = omega (arith, f.1, c.requires.3);
    }

-- `mend::mend_weights` meets its contract: class by class downward, 22 or the mended weight.
use mathlib.Core.Bool.{Bool, cond}
use mathlib.Core.Path.{◌≡◌, refl, sym, ap, ◌∙◌}
use Prim.Native.Nat.{◌≤◌, ◌<◌, max}
use native.Mathlib.Omega.{arith}
use lib.ListN.{get_or}
use Rattle.checks.proofs.Laws.{not_both}
use Rattle.tree.specs.Class.{no_weight, is_leaf}
use Rattle.mended.specs.Weights.{mended_weight}
use Rattle.mended.specs.Answer.{need_checks}
use Rattle.mended.proofs.Downward.{
  MendedAbove,
  down_none,
  above_start,
  low_parent,
  own_is,
  above_stop,
  above_fits,
  above_more,
  above_end,
}
use Rattle.mended.proofs.mend_weights.Goals as goal
use Rattle.mended.proofs.mend_weights.Goals.{After-mended_weight-w, After-from-p}

pub loop-i-init : goal.loop-i-init
loop-i-init c = above_start c.args.tree c.requires

-- the class at hand has its mended weight, its parent is a class number, and it is in range
said : (c : After-mended_weight-w)
    → c.mended_weight-w.result.0
    ≡ mended_weight c.args.tree
    c.loop-i.i
unfolding is_leaf
said c =
    own_is c.args.tree c.requires c.loop-i.i c.loop-i.sums c.loop-i.at c.loop-i.invariant (omega arith) _
    (c.mended_weight-w.ensures
    ∙ ap (λ (b : Bool).
    cond b (get_or c.loop-i.at c.loop-i.i no_weight).0
    (max (get_or c.loop-i.at c.loop-i.i no_weight).0 (get_or c.loop-i.sums c.loop-i.i no_weight).0))
    c.has-leaf.ensures)

narrow : (c : After-from-p) → c.from-p.result < 64
narrow c =
    omega (
      arith,
      c.from-p.ensures,
      low_parent c.args.tree c.requires c.loop-i.i (omega arith) c.loop-i.invariant.within,
      c.requires.few,
      c.loop-i.invariant.within,
    )

small : (c : After-from-p)
    → mended_weight c.args.tree
    c.loop-i.i
    ≤ 1_000_000
small c = omega (arith, c.if-w-gt1000000.false, said (goal.at.After-from-p c).After-mended_weight-w)

pub returns-then-w-gt1000000 : goal.returns-then-w-gt1000000
returns-then-w-gt1000000 c =
    let no = above_stop c.args.tree c.requires c.loop-i.i c.loop-i.sums c.loop-i.at c.loop-i.invariant (omega arith)
    (omega (arith, c.if-w-gt1000000.true, said (goal.at.returns-then-w-gt1000000 c).After-mended_weight-w))
    in
    (sym no, λ e. absurd (not_both e refl))

pub bounds-sums-p : goal.bounds-sums-p
bounds-sums-p c = narrow c

pub plus-requires : goal.plus-requires
plus-requires c =
    let fits =
    above_fits c.args.tree c.requires c.loop-i.i c.loop-i.sums c.loop-i.at c.loop-i.invariant (omega arith) c.from-p.result
    (narrow (goal.at.plus-requires c).After-from-p) (small (goal.at.plus-requires c).After-from-p)
    in
    omega (arith, fits, said (goal.at.plus-requires c).After-mended_weight-w)

pub bounds-sums-p-in-loop-i : goal.bounds-sums-p-in-loop-i
bounds-sums-p-in-loop-i c = narrow (goal.at.bounds-sums-p-in-loop-i c).After-from-p

pub loop-i-preserved : goal.loop-i-preserved
loop-i-preserved c =
    above_more c.args.tree c.requires c.loop-i.i c.loop-i.sums c.loop-i.at c.loop-i.invariant (omega arith) c.from-p.result
    c.mended_weight-w.result c.plus.result c.from-p.ensures (said (goal.at.loop-i-preserved c).After-mended_weight-w) (small (goal.at.loop-i-preserved c).After-from-p) c.plus.ensures

pub returns : goal.returns
returns c =
    let e : c.loop-i.i ≡ 0 = omega arith in
    let m : MendedAbove c.args.tree 0 c.loop-i.sums c.loop-i.at = rw e at c.loop-i.invariant in
    (sym (m.said ∙ down_none (need_checks c.args.tree)), λ z. above_end c.args.tree c.requires c.loop-i.sums c.loop-i.at m)

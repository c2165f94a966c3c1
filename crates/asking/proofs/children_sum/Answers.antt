-- `children_sum` meets its contract.
use mathlib.Core.Bool.{Bool, cond, ◌&&◌}
use mathlib.Core.Path.{◌≡◌, sym, ap, ap₂, ◌∙◌}
use Prim.Native.Nat.{ℕ, ◌+◌, ◌-◌, ◌≤◌, ◌<◌}
use native.Mathlib.Omega.{arith}
use lib.Dec.{eqb}
use Rattle.sets.specs.Set.{has}
use Rattle.tree.specs.declared.Tree.{Tree}
use Rattle.tree.specs.Class.{parent_of, weight_of}
use Rattle.tree.specs.Sum.{sum_to}
use Rattle.tree.proofs.Rules.{few_classes}
use Rattle.tree.proofs.Sums.{sum_none}
use Rattle.shape.specs.Shape.{tree_in}
use Rattle.rules.proofs.Shares.{weight_most}
use Rattle.asking.proofs.Laws.{adds_to, sum_on, sum_whole, cond_most}
use Rattle.asking.proofs.children_sum.Goals as goal
use Rattle.asking.proofs.children_sum.Goals.{In-loop-i, Start}

-- the tree
abbrev treeAt : Start → Tree
treeAt st = tree_in st.args.shape.now

-- the class at hand is a class of the tree, and a class number
at_hand : (c : In-loop-i) → c.loop-i.i ≤ (treeAt (goal.at.In-loop-i c).Start).count
at_hand c = omega (arith, c.loop-i-test.true, c.count-i-end.ensures)

here : (c : In-loop-i) → c.loop-i.i < 64
here c = omega (arith, few_classes (treeAt (goal.at.In-loop-i c).Start) c.requires, at_hand c)

-- its weight
light : (c : In-loop-i) → weight_of (treeAt (goal.at.In-loop-i c).Start) c.loop-i.i ≤ 1_000_000
light c = weight_most (treeAt (goal.at.In-loop-i c).Start) c.loop-i.i c.requires (here c)

pub overflow_add-i-end : goal.overflow_add-i-end
overflow_add-i-end c = omega (arith, few_classes (tree_in c.args.shape.now) c.requires, c.count-i-end.ensures)

pub loop-i-init : goal.loop-i-init
loop-i-init c =
    (omega arith, sym (sum_none (adds_to (treeAt (goal.at.loop-i-init c).Start) c.args.active c.args.p)))

pub parent-requires : goal.parent-requires
parent-requires c = here c

pub has-requires : goal.has-requires
has-requires c = here (goal.at.has-requires c).In-loop-i

pub weight-requires : goal.weight-requires
weight-requires c = (c.requires, here (goal.at.weight-requires c).In-loop-i)

pub with_weight-sum-requires : goal.with_weight-sum-requires
with_weight-sum-requires c =
    omega (arith, here (goal.at.with_weight-sum-requires c).In-loop-i, c.loop-i.invariant.0, light (goal.at.with_weight-sum-requires c).In-loop-i, c.weight.ensures)

pub loop-i-preserved : goal.loop-i-preserved
loop-i-preserved c =
    let a = c.args in
    let t = treeAt (goal.at.loop-i-preserved c).Start in
    let read : c.parent.result ≡ parent_of t c.loop-i.i = c.parent.ensures in
    let listed : c.has.result ≡ has a.active c.loop-i.i = c.has.ensures in
    let on : c.counts-on.result ≡ (eqb (parent_of t c.loop-i.i) a.p && has a.active c.loop-i.i) =
    c.counts-on.ensures ∙ ap₂ (λ (c : ℕ) (b : Bool). eqb c a.p && b) read listed
    in
    let is = c.with_weight-sum.ensures in
    let most = cond_most c.counts-on.result c.weight.result.0 1_000_000 (omega (arith, light (goal.at.loop-i-preserved c).In-loop-i, c.weight.ensures)) in (
      omega (arith, is, most, c.loop-i.invariant.0),
      is
          ∙ ap₂ (λ (b : Bool) (k : ℕ). c.loop-i.sum.0 + cond b k 0) on c.weight.ensures
          ∙ sum_on t a.active a.p c.loop-i.i c.loop-i.sum.0 (omega arith) c.loop-i.invariant.1,
    )

pub returns : goal.returns
returns c =
    let t = treeAt (goal.at.returns c).Start in
    let e : c.loop-i.i - 1 ≡ t.count = omega (arith, c.loop-i-test.false, c.count-i-end.ensures) in
    c.loop-i.invariant.1 ∙ ap (sum_to (adds_to t c.args.active c.args.p)) e ∙ sum_whole t c.args.active c.args.p

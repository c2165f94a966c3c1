-- `active::above` meets its contract.
use mathlib.Core.Path.{◌≡◌, refl}
use Prim.Native.Nat.{◌≤◌, ◌<◌}
use native.Mathlib.Omega.{arith}
use Rattle.sets.specs.Set.{has}
use Rattle.tree.specs.declared.Tree.{Tree}
use Rattle.tree.specs.Class.{parent_of}
use Rattle.shape.specs.Shape.{tree_in}
use Rattle.tree.proofs.Rules.{few_classes, parent_below}
use Rattle.rules.proofs.Waiting.{marks_start, marks_step, marks_all}
use Rattle.rules.proofs.Taken.{leaf_class_lem}
use borrow.Author.Rules.{rules}
use Rattle.active.proofs.above.Goals as goal
use Rattle.active.proofs.above.Goals.{In-loop-i, Start}

-- the tree
abbrev treeAt : Start → Tree
treeAt st = tree_in st.args.shape.now

-- the class at hand and its parent are class numbers
here : (c : In-loop-i)
    → (c.loop-i.i < 64) × (parent_of (treeAt (goal.at.In-loop-i c).Start) c.loop-i.i < 64)
here c =
    let u : c.loop-i.i < 64 = omega (arith, few_classes (treeAt (goal.at.In-loop-i c).Start) c.requires.0, c.loop-i.invariant.0) in
    (u, omega (arith, parent_below (treeAt (goal.at.In-loop-i c).Start) c.loop-i.i c.requires.0 (omega (arith, c.loop-i-test.true)) u))

pub loop-i-init : goal.loop-i-init
loop-i-init c =
    let a = c.args in (
      omega (arith, c.count-i.ensures),
      rw c.count-i.ensures (marks_start (treeAt (goal.at.loop-i-init c).Start) c.requires.0 (has a.waiting) a.waiting (search rules) (λ k u. refl)),
    )

pub parent-p-requires : goal.parent-p-requires
parent-p-requires c = omega (arith, here c)

pub has-requires : goal.has-requires
has-requires c = omega (arith, here (goal.at.has-requires c).In-loop-i)

pub with_if-active-requires : goal.with_if-active-requires
with_if-active-requires c = omega (arith, here (goal.at.with_if-active-requires c).In-loop-i, c.parent-p.ensures)

pub loop-i-preserved : goal.loop-i-preserved
loop-i-preserved c =
    let l : 1 ≤ c.loop-i.i = omega (arith, c.loop-i-test.true) in
    let step = marks_step (treeAt (goal.at.loop-i-preserved c).Start) c.requires.0 (has c.args.waiting) c.loop-i.active c.loop-i.i l in (
      omega arith,
      rw (c.with_if-active.ensures, c.parent-p.ensures) (step c.loop-i.invariant.0 c.loop-i.invariant.1 c.has.result c.has.ensures),
    )

pub returns : goal.returns
returns c =
    let t = treeAt (goal.at.returns c).Start in
    let e : c.loop-i.i ≡ 0 = omega arith in
    marks_all t c.requires.0 (has c.args.waiting) (λ k u on. leaf_class_lem t k c.requires.0 u (c.requires.1 k u on)) c.loop-i.active
    (rw e at c.loop-i.invariant.1)

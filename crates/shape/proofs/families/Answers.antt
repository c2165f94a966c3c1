-- `shape::families` meets its contract.
use Prim.Native.Nat.{◌+◌, ◌<◌}
use native.Mathlib.Omega.{arith}
use lib.ListN.{set}
use Rattle.tree.specs.Class.{parent_of}
use Rattle.tree.proofs.Rules.{few_classes, parent_below}
use Rattle.shape.specs.Shape.{tree_in}
use Rattle.shape.proofs.Kin.{FamiliesTo, families_none, families_on, families_all}
use Rattle.shape.proofs.families.Goals as goal
use Rattle.shape.proofs.families.Goals.{In-loop-i, After-with}

-- the class at hand and its parent are class numbers
here : (c : In-loop-i) → c.loop-i.i < 64
here c =
    omega (arith, few_classes _ c.requires, c.loop-i-test.true, c.count-i-end.ensures)

up : (c : In-loop-i) → parent_of (tree_in c.args.shape.now) c.loop-i.i < 64
up c =
    omega (arith, parent_below _ c.loop-i.i c.requires c.loop-i.invariant.0 (here c), here c)

pub loop-i-init : goal.loop-i-init
loop-i-init c =
    let e = c.count-i-end.ensures in
    (omega arith, omega (arith, e), families_none (tree_in c.args.shape.now))

pub parent-p-requires : goal.parent-p-requires
parent-p-requires c = here c

pub offset_bounds-out-p : goal.offset_bounds-out-p
offset_bounds-out-p c = omega (arith, up (goal.at.offset_bounds-out-p c).In-loop-i, c.parent-p.ensures)

pub bounds-out-p : goal.bounds-out-p
bounds-out-p c = omega (arith, up (goal.at.bounds-out-p c).In-loop-i, c.parent-p.ensures)

pub with-requires : goal.with-requires
with-requires c = here (goal.at.with-requires c).In-loop-i

pub offset_bounds-out-p-in-loop-i : goal.offset_bounds-out-p-in-loop-i
offset_bounds-out-p-in-loop-i c = omega (arith, up (goal.at.offset_bounds-out-p-in-loop-i c).In-loop-i, c.parent-p.ensures)

pub bounds-out-p-in-loop-i : goal.bounds-out-p-in-loop-i
bounds-out-p-in-loop-i c = omega (arith, up (goal.at.bounds-out-p-in-loop-i c).In-loop-i, c.parent-p.ensures)

-- with the class at hand in its parent's set
one_more : (c : After-with)
    → FamiliesTo (tree_in c.args.shape.now) (c.loop-i.i + 1) (set c.loop-i.out c.parent-p.result c.with.result)
one_more c =
    let k = (goal.at.After-with c).In-loop-i in
    families_on _ c.loop-i.i _ c.loop-i.invariant.2 c.loop-i.invariant.0 (here k) _ c.parent-p.ensures
    (omega (arith, up k, c.parent-p.ensures)) _ c.with.ensures

pub loop-i-preserved : goal.loop-i-preserved
loop-i-preserved c = (
  omega arith,
  omega (arith, c.loop-i-test.true, c.count-i-end.ensures),
  one_more (goal.at.loop-i-preserved c).After-with,
)

pub returns : goal.returns
returns c =
    families_all _ c.loop-i.i _ (omega (arith, c.loop-i.invariant.1, c.loop-i-test.false, c.count-i-end.ensures)) c.loop-i.invariant.2

-- after the last class's turn
pub returns-2 : goal.returns-2
returns-2 c = families_all _ (c.loop-i.i + 1) _ (omega (arith, c.loop-i-test.true, c.count-i-end.ensures)) (one_more (goal.at.returns-2 c).After-with)

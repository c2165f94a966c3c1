-- `totals::work_out_inner` meets its contract: class by class downward.
use mathlib.Core.Path.{◌≡◌, ap, ◌∙◌}
use Prim.Native.Nat.{ℕ, ◌≤◌, ◌<◌}
use native.Mathlib.Omega.{arith}
use Rattle.sets.specs.Set.{has}
use Rattle.tree.specs.declared.Tree.{Tree}
use Rattle.tree.specs.Class.{is_leaf}
use Rattle.tree.proofs.Rules.{few_classes}
use Rattle.shape.specs.Shape.{tree_in}
use Rattle.totals.proofs.Passing.{pass_begins, pass_addable, pass_root, pass_turn, pass_ends}
use Rattle.totals.proofs.work_out_inner.Goals as goal
use Rattle.totals.proofs.work_out_inner.Goals.{After-has-leaf, In-loop-i}

pub loop-i-init : goal.loop-i-init
loop-i-init c =
    let t = tree_in c.args.shape.now in (
      omega (arith, c.count-i.ensures),
      rw c.count-i.ensures (pass_begins t c.requires.0 c.args.packets.now c.requires.2),
      rw c.count-i.ensures (pass_begins t c.requires.0 c.args.bytes.now c.requires.3),
    )

-- the tree, and where the class at hand is found
abbrev treeAt : In-loop-i → Tree
treeAt g = tree_in g.args.shape.now

here : (g : In-loop-i) → (1 ≤ g.loop-i.i) × (g.loop-i.i < 64)
here g =
    (omega (arith, g.loop-i-test.true), omega (arith, few_classes (treeAt g) g.requires.0, g.loop-i.invariant.0))

-- whether it is a leaf
leaf_is : (k : After-has-leaf) → k.has-leaf.result ≡ is_leaf (treeAt (goal.at.After-has-leaf k).In-loop-i) k.loop-i.i
unfolding is_leaf
leaf_is k = k.has-leaf.ensures ∙ ap (λ (s : ℕ). has s k.loop-i.i) k.leaves-leaves.ensures

pub has-leaf-requires : goal.has-leaf-requires
has-leaf-requires c = (here c).1

pub offset_bounds-children-i : goal.offset_bounds-children-i
offset_bounds-children-i c = omega (arith, here (goal.at.offset_bounds-children-i c).In-loop-i)

pub bounds-children-i : goal.bounds-children-i
bounds-children-i c = omega (arith, here (goal.at.bounds-children-i c).In-loop-i)

pub work_out_class-requires : goal.work_out_class-requires
work_out_class-requires c =
    let t = treeAt (goal.at.work_out_class-requires c).In-loop-i in
    let a = c.args in (
      (here (goal.at.work_out_class-requires c).In-loop-i).1,
      λ off. (
        pass_root t c.requires.0 a.packets.now c.loop-i.i _ c.loop-i.invariant.1 (here (goal.at.work_out_class-requires c).In-loop-i).0 c.loop-i.invariant.0 a.children.now
            c.requires.1,
        pass_addable t c.requires.0 a.packets.now c.loop-i.i _ c.loop-i.invariant.1 (here (goal.at.work_out_class-requires c).In-loop-i).0 c.loop-i.invariant.0 a.children.now
            c.requires.1 c.requires.4,
        pass_addable t c.requires.0 a.bytes.now c.loop-i.i _ c.loop-i.invariant.2 (here (goal.at.work_out_class-requires c).In-loop-i).0 c.loop-i.invariant.0 a.children.now
            c.requires.1 c.requires.5,
      ),
    )

pub loop-i-preserved : goal.loop-i-preserved
loop-i-preserved c =
    let t = treeAt (goal.at.loop-i-preserved c).In-loop-i in
    let a = c.args in (
      omega (arith, c.loop-i.invariant.0),
      rw c.work_out_class.ensures.0
          (pass_turn t c.requires.0 a.packets.now c.loop-i.i _ c.loop-i.invariant.1 (here (goal.at.loop-i-preserved c).In-loop-i).0 c.loop-i.invariant.0 a.children.now
          c.requires.1 c.has-leaf.result (leaf_is (goal.at.loop-i-preserved c).After-has-leaf)),
      rw c.work_out_class.ensures.1
          (pass_turn t c.requires.0 a.bytes.now c.loop-i.i _ c.loop-i.invariant.2 (here (goal.at.loop-i-preserved c).In-loop-i).0 c.loop-i.invariant.0 a.children.now
          c.requires.1 c.has-leaf.result (leaf_is (goal.at.loop-i-preserved c).After-has-leaf)),
    )

pub returns : goal.returns
returns c =
    let t = tree_in c.args.shape.now in
    let z : c.loop-i.i ≡ 0 = omega arith in (
      pass_ends t c.requires.0 c.args.packets.now c.loop-i.i _ c.loop-i.invariant.1 z,
      pass_ends t c.requires.0 c.args.bytes.now c.loop-i.i _ c.loop-i.invariant.2 z,
    )

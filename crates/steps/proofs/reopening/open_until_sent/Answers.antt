-- `reopening::open_until_sent` meets its contract: a leaf is found after at most two rounds.
use mathlib.Core.Path.{refl, subst}
use Prim.Native.Nat.{ℕ}
use native.Mathlib.Omega.{arith}
use Rattle.sets.specs.Set.{Both}
use Rattle.shape.specs.Shape.{tree_in}
use Rattle.steps.proofs.Rounding.{fields_low, fields_searched, under_starts, under_can, under_fields, under_finds, under_on}
use Rattle.steps.proofs.reopening.open_until_sent.Goals as goal
use Rattle.steps.proofs.reopening.open_until_sent.Goals.{After-both-leaves}

-- the leaves that are searched are the active ones
searched : (b : After-both-leaves)
    → let a = b.args in Both a.active (tree_in a.shape.now).leaves b.both-leaves.result
searched b =
    subst (λ (s : ℕ). Both b.args.active s b.both-leaves.result) b.leaves.ensures b.both-leaves.ensures

pub loop-in_force-init : goal.loop-in_force-init
loop-in_force-init c = λ k o. under_starts _ _ k _ _ _ _ _ o

pub open_round-in_force-requires : goal.open_round-in_force-requires
open_round-in_force-requires c =
    (under_can _ _ (c.loop-in_force.invariant c.requires.0.0 c.requires.0.1), c.requires.1)

pub overflow_add-rounds : goal.overflow_add-rounds
overflow_add-rounds c =
    omega (arith, (c.loop-in_force.invariant c.requires.0.0 c.requires.0.1).way.few)

pub next_leaf-class-requires : goal.next_leaf-class-requires
next_leaf-class-requires c =
    let w = c.loop-in_force.invariant c.requires.0.0 c.requires.0.1 in
    (omega arith, fields_low _ _ (under_fields _ _ w _ _ _ c.open_round-in_force.ensures))

pub returns-then-class-lt-CLASSES : goal.returns-then-class-lt-CLASSES
returns-then-class-lt-CLASSES c = record {
  on_the_way = λ k q.
      let w = c.loop-in_force.invariant k q in
      under_finds _ _ w _ _ _ c.open_round-in_force.ensures _
      (c.next_leaf-class.ensures _ (fields_searched _ _ (under_fields _ _ w _ _ _ c.open_round-in_force.ensures) _ (searched (goal.at.returns-then-class-lt-CLASSES c).After-both-leaves)));
  class_bound = (c.if-class-lt-CLASSES.true, refl, refl);
}

pub loop-in_force-smaller : goal.loop-in_force-smaller
loop-in_force-smaller c =
    omega (arith, (c.loop-in_force.invariant c.requires.0.0 c.requires.0.1).way.few)

pub loop-in_force-preserved : goal.loop-in_force-preserved
loop-in_force-preserved c =
    λ k q.
    let w = c.loop-in_force.invariant k q in
    under_on _ _ w _ _ _ c.open_round-in_force.ensures _
    (c.next_leaf-class.ensures _ (fields_searched _ _ (under_fields _ _ w _ _ _ c.open_round-in_force.ensures) _ (searched (goal.at.loop-in_force-preserved c).After-both-leaves))) c.if-class-lt-CLASSES.false

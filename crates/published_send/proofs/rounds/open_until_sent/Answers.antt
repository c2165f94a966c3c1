-- `rounds::open_until_sent` meets its contract.
use mathlib.Core.Path.{refl, subst}
use Prim.Native.Nat.{ℕ}
use native.Mathlib.Omega.{arith}
use Rattle.sets.specs.Set.{Both}
use Rattle.shape.specs.Shape.{tree_in}
use Rattle.published.specs.Visiting.{visited, opened_published}
use Rattle.published_send.proofs.Rounding.{can_of, way_of, left_of_lem, lent_open, lying_open, under_found, under_on}
use Rattle.published_send.proofs.rounds.open_until_sent.Goals as goal
use Rattle.published_send.proofs.rounds.open_until_sent.Goals.{After-both-leaves}

-- the leaves that are visited are the active ones
searched : (b : After-both-leaves)
    → let a = b.args in Both a.active (tree_in a.shape.now).leaves b.both-leaves.result
searched b =
    subst (λ (s : ℕ). Both b.args.active s b.both-leaves.result) b.leaves.ensures b.both-leaves.ensures

pub loop-in_force-init : goal.loop-in_force-init
loop-in_force-init c = λ x₀ u. u

pub open_unshared-first-requires : goal.open_unshared-first-requires
open_unshared-first-requires c =
    (can_of _ _ _ _ _ _ _ _ _ _ (c.loop-in_force.invariant c.requires.0.0 c.requires.0.1), c.requires.1)

pub overflow_add-rounds : goal.overflow_add-rounds
overflow_add-rounds c =
    omega (arith, left_of_lem _ _ _ _ _ _ _ _ _ _ (c.loop-in_force.invariant c.requires.0.0 c.requires.0.1))

pub visit-came-requires : goal.visit-came-requires
visit-came-requires c =
    let u = c.loop-in_force.invariant c.requires.0.0 c.requires.0.1 in
    let w = way_of _ _ _ _ _ _ _ _ _ _ u in (
      (
        opened_published (visited u.x).after,
        lent_open _ _ _ _ _ _ _ _ _ _ u c.open_unshared-first.result _ _ _ c.open_unshared-first.ensures,
        lying_open _ _ _ _ _ _ _ _ _ _ u c.both-leaves.result (searched (goal.at.visit-came-requires c).After-both-leaves),
        w.sound,
        w.wide,
      ),
      omega arith,
      omega arith,
      c.requires.2,
    )

pub returns-then-came-lt-CLASSES : goal.returns-then-came-lt-CLASSES
returns-then-came-lt-CLASSES c = record {
  arrived = λ x₀ q.
      let u = c.loop-in_force.invariant x₀ q in
      let w = way_of _ _ _ _ _ _ _ _ _ _ u in
      let f =
      c.visit-came.ensures (opened_published (visited u.x).after)
      (lent_open _ _ _ _ _ _ _ _ _ _ u c.open_unshared-first.result _ _ _ c.open_unshared-first.ensures)
      (lying_open _ _ _ _ _ _ _ _ _ _ u c.both-leaves.result (searched (goal.at.returns-then-came-lt-CLASSES c).After-both-leaves)) w.sound w.wide
      in
      under_found _ _ _ _ _ _ _ _ _ _ u c.open_unshared-first.result _ _ _ c.open_unshared-first.ensures c.visit-came.result.leaf
      c.visit-came.result.asked _ _ _ f c.if-came-lt-CLASSES.true;
  known_value = refl;
}

pub loop-in_force-smaller : goal.loop-in_force-smaller
loop-in_force-smaller c =
    omega (arith, left_of_lem _ _ _ _ _ _ _ _ _ _ (c.loop-in_force.invariant c.requires.0.0 c.requires.0.1))

pub loop-in_force-preserved : goal.loop-in_force-preserved
loop-in_force-preserved c =
    λ x₀ q.
    let u = c.loop-in_force.invariant x₀ q in
    let w = way_of _ _ _ _ _ _ _ _ _ _ u in
    let f =
    c.visit-came.ensures (opened_published (visited u.x).after)
    (lent_open _ _ _ _ _ _ _ _ _ _ u c.open_unshared-first.result _ _ _ c.open_unshared-first.ensures)
    (lying_open _ _ _ _ _ _ _ _ _ _ u c.both-leaves.result (searched (goal.at.loop-in_force-preserved c).After-both-leaves)) w.sound w.wide
    in
    under_on _ _ _ _ _ _ _ _ _ _ u c.open_unshared-first.result _ _ _ c.open_unshared-first.ensures c.visit-came.result.leaf
    c.visit-came.result.asked _ _ _ f c.if-came-lt-CLASSES.false

-- `next_sender` meets its contract.
use mathlib.Core.Path.{refl, subst}
use Prim.Native.Nat.{ℕ}
use Rattle.sets.specs.Set.{Both}
use Rattle.shape.specs.Shape.{tree_in}
use Rattle.published_send.proofs.Starts.{wide_of, low_of, lent_start, lying_start, found_now, none_now}
use Rattle.published_send.proofs.next_sender.Goals as goal
use Rattle.published_send.proofs.next_sender.Goals.{After-both-leaves}

-- the leaves that are visited are the active ones
searched : (b : After-both-leaves)
    → let a = b.args in Both a.stand.active (tree_in a.shape.now).leaves b.both-leaves.result
searched b =
    subst (λ (s : ℕ). Both b.args.stand.active s b.both-leaves.result) b.leaves.ensures b.both-leaves.ensures

pub visit-came-requires : goal.visit-came-requires
visit-came-requires c =
    let q = c.requires.0.4 in
    let k = c.args.stand in (
      (
        _,
        lent_start k _ _ _ _ _ _ _ _ _ _ _ _ q,
        lying_start k _ _ _ _ _ _ _ _ _ _ _ _ q c.both-leaves.result (searched (goal.at.visit-came-requires c).After-both-leaves),
        q.sound.state,
        wide_of _ q,
      ),
      q.sound.state.state.place.low,
      q.sound.state.state.place.high,
      low_of _ q _ refl,
    )

pub returns-then-came-lt-CLASSES : goal.returns-then-came-lt-CLASSES
returns-then-came-lt-CLASSES c =
    let k = c.args.stand in record {
      arrived = λ tags marks packets bytes q.
          found_now k _ _ _ _ _ _ _ _ _ _ _ _ q _ _ _ _ _
          (c.visit-came.ensures _ (lent_start k _ _ _ _ _ _ _ _ _ _ _ _ q)
          (lying_start k _ _ _ _ _ _ _ _ _ _ _ _ q c.both-leaves.result (searched (goal.at.returns-then-came-lt-CLASSES c).After-both-leaves)) q.sound.state (wide_of _ q))
          c.if-came-lt-CLASSES.true;
      kept = c.requires.1;
    }

pub reopened-requires : goal.reopened-requires
reopened-requires c =
    let k = c.args.stand in
    let q = c.requires.0.4 in (
      (
        _,
        none_now k _ _ _ _ _ _ _ _ _ _ _ _ q _ _ _ _ _
            (c.visit-came.ensures _ (lent_start k _ _ _ _ _ _ _ _ _ _ _ _ q)
            (lying_start k _ _ _ _ _ _ _ _ _ _ _ _ q c.both-leaves.result (searched (goal.at.reopened-requires c).After-both-leaves)) q.sound.state (wide_of _ q))
            c.if-came-lt-CLASSES.false,
      ),
      c.requires.1,
    )

pub returns : goal.returns
returns c =
    let k = c.args.stand in record {
      arrived = λ tags marks packets bytes q.
          c.reopened.ensures.arrived _
          (none_now k _ _ _ _ _ _ _ _ _ _ _ _ q _ _ _ _ _
          (c.visit-came.ensures _ (lent_start k _ _ _ _ _ _ _ _ _ _ _ _ q)
          (lying_start k _ _ _ _ _ _ _ _ _ _ _ _ q c.both-leaves.result (searched (goal.at.returns c).After-both-leaves)) q.sound.state (wide_of _ q))
          c.if-came-lt-CLASSES.false);
      kept = c.reopened.ensures.kept;
    }

-- `steps::next_sender` meets its contract.
use mathlib.Core.Path.{refl, subst}
use Prim.Native.Nat.{ℕ}
use Rattle.sets.specs.Set.{Both}
use Rattle.shape.specs.Shape.{tree_in}
use Rattle.steps.proofs.Rounding.{fields_low, fields_searched}
use Rattle.steps.proofs.Departures.{now_finds, is_closed}
use Rattle.steps.proofs.next_sender.Goals as goal
use Rattle.steps.proofs.next_sender.Goals.{After-both-leaves}

-- the leaves that are searched are the active ones
searched : (b : After-both-leaves)
    → let a = b.args in Both a.stand.active (tree_in a.shape.now).leaves b.both-leaves.result
searched b =
    subst (λ (s : ℕ). Both b.args.stand.active s b.both-leaves.result) b.leaves.ensures b.both-leaves.ensures

pub next_leaf-i-requires : goal.next_leaf-i-requires
next_leaf-i-requires c = let s = c.requires.0.3.fields in (s.sound.state.place.high, fields_low _ _ s)

pub returns-then-i-lt-CLASSES : goal.returns-then-i-lt-CLASSES
returns-then-i-lt-CLASSES c = record {
  by_index = λ tags marks totals s.
      now_finds _ _ s _ _ (c.next_leaf-i.ensures _ (fields_searched _ _ s.fields _ (searched (goal.at.returns-then-i-lt-CLASSES c).After-both-leaves))) c.if-i-lt-CLASSES.true;
  kept = c.requires.1;
}

pub reopened-requires : goal.reopened-requires
reopened-requires c =
    let s = c.requires.0.3 in
    let next = c.next_leaf-i.ensures _ (fields_searched _ _ s.fields _ (searched (goal.at.reopened-requires c).After-both-leaves)) in
    ((_, refl, is_closed _ _ s _ next c.if-i-lt-CLASSES.false), c.requires.1)

pub returns : goal.returns
returns c = record {
  by_index = λ tags marks totals s.
      c.reopened.ensures.finds _ refl
      (is_closed _ _ s _ (c.next_leaf-i.ensures _ (fields_searched _ _ s.fields _ (searched (goal.at.returns c).After-both-leaves))) c.if-i-lt-CLASSES.false);
  kept = c.reopened.ensures.kept;
}

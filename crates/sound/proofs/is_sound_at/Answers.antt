-- `sound::is_sound_at` meets its contract: it says yes exactly where the link of these numbers is sound.
use Rattle.std.proofs.Common.{◌≡◌, sym, refl, ◌∙◌, arith}
use Rattle.checks.proofs.Laws.{exactly_no, not_true_and_false}
use Rattle.tree.specs.Rules.{PlanRules}
use Rattle.tree.specs.Size.{round_size, SizeRight}
use Rattle.tree.proofs.Rules.{size_ceiling}
use Rattle.shape.specs.Shape.{tree_in}
use Rattle.state.proofs.Zips.{zip_length}
use Rattle.sound.specs.Steps.{link_in}
use Rattle.sound.proofs.Views.{right_to_sound, sound_to_right}
use Rattle.sound.proofs.is_sound_at.Goals as goal
use Rattle.sound.proofs.is_sound_at.Goals.{In-Some, Else-not-size_right}

pub returns-in_default : goal.returns-in_default
returns-in_default c = record {
  by_index = λ tags marks charged. exactly_no (λ p. not_true_and_false (c.in_default.ensures.0.right.complete p.state.fits.tree) refl);
  families = λ e. absurd (not_true_and_false e refl);
}

-- the plan rules hold, and the round size is known
rules : (c : In-Some) → PlanRules (tree_in c.args.shape.now)
rules c = c.in-Some.ensures.0.right.sound refl

size : (c : In-Some) → c.in-Some.whole.0 ≡ round_size (tree_in c.args.shape.now)
size c = c.in-Some.ensures.0.size

pub returns-then-not-size_right : goal.returns-then-not-size_right
returns-then-not-size_right c = record {
  by_index = λ tags marks charged. exactly_no (λ p. not_true_and_false
      (c.size_right.ensures.complete (record {
        most = omega (arith, size (goal.at.returns-then-not-size_right c).In-Some, p.state.fits.size.most);
        same = λ z. p.state.fits.size.whole (sym c.follows.ensures ∙ z) ∙ sym (size (goal.at.returns-then-not-size_right c).In-Some);
      }))
      c.if-not-size_right.true);
  families = λ z. absurd (not_true_and_false z refl);
}

-- the size may be in force
right : (c : Else-not-size_right)
    → SizeRight (tree_in c.args.shape.now)
    c.args.size.0
right c =
    let w = c.size_right.ensures.sound c.if-not-size_right.false in
    record { most = omega (arith, size (goal.at.Else-not-size_right c).In-Some, w.most); whole = λ z. w.same (c.follows.ensures ∙ z) ∙ size (goal.at.Else-not-size_right c).In-Some }

pub classes_right-requires : goal.classes_right-requires
classes_right-requires c = (
  rules (goal.at.classes_right-requires c).In-Some,
  c.in-Some.ensures.1,
  zip_length _ _ (c.told-balance ∙ sym c.told-residual) ∙ c.told-balance,
  omega (arith, (right (goal.at.classes_right-requires c).Else-not-size_right).most, size_ceiling _ (rules (goal.at.classes_right-requires c).In-Some)),
)

pub returns-then-contains-clause-by_index : goal.returns-then-contains-clause-by_index
returns-then-contains-clause-by_index c =
    let a = c.args in
    let within = c.if-contains.ensures.cases in
    λ tags marks charged.
    let l =
    link_in a.shape.now a.size a.active a.place a.balance.now a.residual.now a.start.now a.held.now
    a.lengths.now tags marks a.packets.now a.bytes.now charged
    in
    record {
      sound =
          λ e.
          right_to_sound l (rules (goal.at.returns-then-contains-clause-by_index c).In-Some) (right (goal.at.returns-then-contains-clause-by_index c).Else-not-size_right) (record { low = grind (arith, within); high = grind (arith, within) }) c.ranges.active.fits
          ((c.classes_right.ensures tags marks charged).sound e);
      complete = λ p. (c.classes_right.ensures tags marks charged).complete (sound_to_right l (rules (goal.at.returns-then-contains-clause-by_index c).In-Some) p);
    }

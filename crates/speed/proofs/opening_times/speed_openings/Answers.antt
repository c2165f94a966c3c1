-- `speed::opening::speed_openings` meets its contract.
use Rattle.std.proofs.Common.{◌≡◌, ℕ, true, false, sym, refl, ap, ◌∙◌}
use borrow.Author.Tests.{not-true, not-false}
use Rattle.run.specs.declared.Step.{Step}
use Rattle.run.specs.Run.{begin_of}
use Rattle.speed.specs.Openings.{root_left, left_after}
use Rattle.speed.proofs.Served.{begun_sound}
use Rattle.speed.proofs.opening_times.speed_openings.Goals as goal
use Rattle.speed.proofs.opening_times.speed_openings.Goals.{After-begin-begun, then-not-begun-via-then-not-begun, then-not-begun-via-else-not-begun+then-tree}

-- nothing is left where the plan is refused, or is one of rule 2
left_refused : (s : Step) (n : ℕ) → s.more ≡ false → left_after s n ≡ 0
left_refused s n off = rw off refl

left_ruled : (s : Step) (n : ℕ) → s.more ≡ true → s.link.tree.follows ≡ true → left_after s n ≡ 0
left_ruled s n on follows = rw (on, follows) refl

left_opens : (s : Step) (n : ℕ) → s.more ≡ true → s.link.tree.follows ≡ false → left_after s n ≡ root_left s.link n
left_opens s n on follows = rw (on, follows) refl

-- the step that was begun with is the plan's
as_begun : (b : After-begin-begun) (r : ℕ) → left_after b.begin-begun.result b.args.times ≡ r
    → r ≡ left_after (begin_of b.args.input.now) b.args.times
as_begun b r e = sym e ∙ ap (λ (s : Step). left_after s b.args.times) b.begin-begun.ensures

pub returns-then-not-begun : goal.returns-then-not-begun
returns-then-not-begun c =
    let b = (goal.at.returns-then-not-begun c).After-begin-begun in
    elim c.then-not-begun.branch [
      | then-not-begun-via-then-not-begun w ↦ as_begun b 0 (left_refused c.begin-begun.result _ (not-true _ w.if-not-begun.true))
      | then-not-begun-via-else-not-begun+then-tree w ↦
          as_begun b 0 (left_ruled c.begin-begun.result _ (not-false _ w.if-not-begun.false) w.if-tree.true)
    ]

pub root_left-requires : goal.root_left-requires
root_left-requires c =
    (begun_sound 0 _ c.begin-begun.result c.begin-begun.ensures (not-false _ c.if-not-begun.false), c.if-tree.false)

pub returns : goal.returns
returns c =
    as_begun (goal.at.returns c).After-begin-begun _ (left_opens c.begin-begun.result _ (not-false _ c.if-not-begun.false) c.if-tree.false ∙ sym c.root_left.ensures)

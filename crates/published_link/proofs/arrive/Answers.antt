-- `arrive` meets its contract: where who has asked is right, an arrival is the first engine's.
use Rattle.checks.proofs.Laws.{not_true_and_false}
use Rattle.published.proofs.Shapes.{shaped_second}
use Rattle.published_link.proofs.Judging.{asked_sound}
use Rattle.published_link.proofs.Answers.{arrival_unsound, arrival_first}
use Rattle.published_link.proofs.arrive.Goals as goal

pub returns-then-not-asked_is_right : goal.returns-then-not-asked_is_right
returns-then-not-asked_is_right c =
    arrival_unsound c.args.second (shaped_second c.args.second _ c.well_formed.0) c.args.class c.args.packet
    c.arrival_stays.result
    (λ s.
    not_true_and_false
    (c.asked_is_right.ensures.complete (record { rules = s.state.state.fits.tree; asked = asked_sound c.args.second s }))
    c.if-not-asked_is_right.true)
    c.arrival_stays.ensures

pub returns : goal.returns
returns c =
    arrival_first c.args.second (shaped_second c.args.second _ c.well_formed.0) c.args.class c.args.packet
    c.arrive-after.result (c.asked_is_right.ensures.sound c.if-not-asked_is_right.false).asked c.arrive-after.ensures

-- `is_sound` meets its contract.
use Rattle.checks.proofs.Laws.{exactly_no, not_true_and_false}
use Rattle.published_link.proofs.Judging.{both_sound, link_sound, asked_sound}
use Rattle.published_link.proofs.is_sound.Goals as goal

pub asked_right-requires : goal.asked_right-requires
asked_right-requires c = (c.is_sound.ensures.sound c.if-is_sound.true).state.fits.tree

pub returns-then-is_sound : goal.returns-then-is_sound
returns-then-is_sound c =
    let e = c.asked_right.ensures in
    record {
      sound = λ y. both_sound _ (c.is_sound.ensures.sound c.if-is_sound.true) (e.sound y);
      complete = λ s. e.complete (asked_sound _ s);
    }

pub returns-else-is_sound : goal.returns-else-is_sound
returns-else-is_sound c =
    rw c.if-is_sound.false (exactly_no (λ s. not_true_and_false (c.is_sound.ensures.complete (link_sound _ s)) c.if-is_sound.false))

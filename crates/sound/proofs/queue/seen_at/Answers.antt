-- `queue::seen_at` meets its contract.
use Rattle.std.proofs.Common.{refl, ◌∙◌}
use Rattle.sound.proofs.queue.seen_at.Goals as goal

pub returns : goal.returns
returns c = c.seen.ensures ∙ rw (c.slot.ensures.0, c.from.ensures) refl

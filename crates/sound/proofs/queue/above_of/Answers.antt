-- `queue::above_of` meets its contract.
use Rattle.std.proofs.Common.{◌-◌, ◌∙◌}
use Rattle.sound.proofs.Places.{four_wraps}
use Rattle.sound.proofs.queue.above_of.Goals as goal

pub returns : goal.returns
returns c =
    c.wrapping_add_u16.ensures.value
    ∙ rw (
      c.wrapping_add_u16-last.ensures.value,
      c.saturating_sub-4.ensures,
      c.saturating_sub-3.ensures,
      c.wrapping_add_u16-first.ensures.value,
      c.saturating_sub-2.ensures,
      c.saturating_sub.ensures,
    )
    (four_wraps (c.args.a - 59) (c.args.b - 59) (c.args.c - 59) (c.args.d - 59))

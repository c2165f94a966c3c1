-- `speed::opening::open_next` meets its contract.
use Rattle.std.proofs.Common.{length, ap, ◌∙◌}
use Rattle.tree.proofs.Tables.{table_length}
use Rattle.rules.proofs.Waiting.{active_meaning}
use Rattle.steps.proofs.Rounding.{raised_none, fields_can, fields_opened}
use Rattle.speed.proofs.Steps.{opened_covers, same_size}
use Rattle.speed.proofs.opening_times.open_next.Goals as goal

pub round_active-active-requires : goal.round_active-active-requires
round_active-active-requires c = let rules = c.requires.0.1.sound.state.fits.tree in (rules, raised_none _ rules)

pub refresh-requires : goal.refresh-requires
refresh-requires c =
    (c.requires.0.1.sound.state.fits.tree, c.requires.2)

pub open_round-requires : goal.open_round-requires
open_round-requires c =
    let s = c.requires.0.1 in (
      fields_can _ _ s (opened_covers _ s.sound s.wide c.requires.1)
          _ (c.round_active-active.ensures ∙ active_meaning _ s.sound.state.fits.tree),
      c.refresh.ensures,
    )

pub returns : goal.returns
returns c = record {
  totals_after = λ k s.
      same_size _ _ _ _ s c.requires.1
      (fields_opened _ _ s _ c.open_round.result _ _ (c.round_active-active.ensures ∙ active_meaning _ s.sound.state.fits.tree)
      c.open_round.ensures);
  kept_len = ap length c.refresh.ensures ∙ table_length _ 64;
}

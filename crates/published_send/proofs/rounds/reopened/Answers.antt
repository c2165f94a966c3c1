-- `rounds::reopened` meets its contract.
use Rattle.steps.proofs.Rounding.{round_kept}
use Rattle.published.specs.Second.{means}
use Rattle.published_send.proofs.Starts.{low_of, rules_of, under_start}
use Rattle.published_send.proofs.rounds.reopened.Goals as goal

pub round_active-active-requires : goal.round_active-active-requires
round_active-active-requires c = (rules_of _ _ _ _ _ _ _ _ _ c.requires.0.1, c.requires.1.raised)

pub refresh-requires : goal.refresh-requires
refresh-requires c =
    (rules_of _ _ _ _ _ _ _ _ _ c.requires.0.1, c.requires.1.wide)

pub open_until_sent-requires : goal.open_until_sent-requires
open_until_sent-requires c =
    let h = c.requires.0.1 in
    ((_, under_start _ _ _ _ _ _ _ _ _ h _ c.round_active-active.ensures), c.refresh.ensures, low_of _ h.ready _ h.starts)

pub returns : goal.returns
returns c =
    let o = c.open_until_sent.ensures in
    record {
      arrived = λ l h. o.arrived (means l) (under_start _ _ _ _ _ _ _ _ _ h _ c.round_active-active.ensures);
      kept = round_kept _ _ _ _ _ (rules_of _ _ _ _ _ _ _ _ _ c.requires.0.1) c.round_active-active.ensures o.known_value c.refresh.ensures;
    }

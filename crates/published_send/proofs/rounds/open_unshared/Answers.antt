-- `rounds::open_unshared` meets its contract.
use mathlib.Core.Path.{refl, ap, ◌∙◌}
use Rattle.published.specs.Visiting.{asked_first}
use Rattle.published_send.proofs.rounds.open_unshared.Goals as goal

pub begin_round-begun-requires : goal.begin_round-begun-requires
begin_round-begun-requires c = c.requires

pub returns : goal.returns
returns c =
    let begun = c.begin_round-begun.ensures in
    record {
      asked_is = c.asked_first.ensures ∙ ap asked_first begun.kind_is_lem;
      size_is = begun.size_is;
      accounts_are = begun.accounts_are;
      quotas_are = refl;
    }

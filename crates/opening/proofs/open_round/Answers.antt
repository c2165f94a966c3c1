-- `opening::open_round` meets its contract.
use mathlib.Core.Path.{sym, ap, subst, ◌∙◌}
use Rattle.shape.specs.Shape.{tree_in}
use Rattle.rules.specs.Opening.{Kind, kind_is, kind_of, size_in, resized, opened_accounts}
use Rattle.rules.specs.Steps.{CanOpen}
use Rattle.state.specs.Account.{zip_accounts}
use Rattle.opening.proofs.open_round.Goals as goal

pub begin_round-begun-requires : goal.begin_round-begun-requires
begin_round-begun-requires c = c.requires

pub open_accounts-requires : goal.open_accounts-requires
open_accounts-requires c = (
  subst (CanOpen (tree_in c.args.shape.now) c.args.active) (sym c.begin_round-begun.ensures.accounts_are) c.requires.0.after,
  c.requires.1,
)

pub returns : goal.returns
returns c =
    let a = c.args in
    let begun = c.begin_round-begun.ensures in
    let xs = zip_accounts a.balance.now a.residual.now in
    let k = kind_of (tree_in a.shape.now) a.active xs in
    record {
      size_is = begun.size_is;
      accounts_are =
          c.open_accounts.ensures
          ∙ ap (opened_accounts (kind_is c.begin_round-begun.result.surplus) (tree_in a.shape.now) a.active) begun.accounts_are
          ∙ ap (λ (x : Kind). opened_accounts x (tree_in a.shape.now) a.active (resized k a.size.0 (size_in k (tree_in a.shape.now) a.active a.size.0)
          xs))
          begun.kind_is_lem;
    }

-- `lent_accounts::keep_balance` meets its contract.
use Rattle.std.proofs.Common.{ℕ, set, ap, ◌∙◌}
use Rattle.state.specs.Account.{account}
use Rattle.state.specs.Account.{zip_accounts}
use Rattle.state.proofs.Zips.{zip_set_first}
use Rattle.state.proofs.lent_accounts.keep_balance.Goals as goal

pub returns : goal.returns
returns c =
    let a = c.args in
    λ residual same.
    zip_set_first a.balance.now residual a.i a.account.balance.0
    ∙ ap (λ (r : ℕ). set (zip_accounts a.balance.now residual) a.i (account a.account.balance.0 r)) same

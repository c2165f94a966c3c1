-- `lent_accounts::account_of` meets its contract.
use Rattle.std.proofs.Common.{sym, arith}
use Rattle.state.proofs.Zips.{zip_at}
use Rattle.state.proofs.lent_accounts.account_of.Goals as goal

pub returns : goal.returns
returns c =
    let a = c.args in
    sym (zip_at a.balance.now a.residual.now a.i (omega (arith, c.requires.1)))

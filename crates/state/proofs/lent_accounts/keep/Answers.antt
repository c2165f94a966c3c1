-- `lent_accounts::keep` meets its contract.
use Rattle.state.proofs.Zips.{zip_set}
use Rattle.state.proofs.lent_accounts.keep.Goals as goal

pub returns : goal.returns
returns c = let a = c.args in zip_set a.balance.now a.residual.now a.i a.account.balance.0 a.account.residual.0

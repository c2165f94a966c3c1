-- `lent_accounts::zipped` meets its contract.
use Rattle.std.proofs.Common.{◌≡◌, ◌-◌, ◌++◌, replicate}
use Rattle.state.specs.Account.{no_account, account_of}
use Rattle.tree.specs.Sum.{table}
use Rattle.state.specs.Account.{zip_accounts}
use Rattle.state.proofs.lent_accounts.zipped.Given as goal

abbrev pub invariant-loop-i : goal.invariant-loop-i
invariant-loop-i l = l.account-items ≡ table (account_of (zip_accounts l.balance l.residual)) l.i ++ replicate (64 - l.i) no_account

-- `lent_accounts::balances` meets its contract.
use Rattle.std.proofs.Common.{◌≡◌, ◌-◌, ◌≤◌, ◌++◌, replicate}
use Rattle.state.specs.Account.{balance_of}
use Rattle.tree.specs.Sum.{table}
use Rattle.state.proofs.lent_accounts.balances.Given as goal

abbrev pub invariant-loop-i : goal.invariant-loop-i
invariant-loop-i l = (l.i ≤ 64) × (l.out ≡ table (balance_of l.accounts) l.i ++ replicate (64 - l.i) 0)

-- `lent_accounts::residuals` meets its contract.
use Rattle.std.proofs.Common.{◌≡◌, ◌-◌, ◌≤◌, ◌++◌, replicate}
use Rattle.state.specs.Account.{residual_of}
use Rattle.tree.specs.Sum.{table}
use Rattle.state.proofs.lent_accounts.residuals.Given as goal

abbrev pub invariant-loop-i : goal.invariant-loop-i
invariant-loop-i l = (l.i ≤ 64) × (l.out ≡ table (residual_of l.accounts) l.i ++ replicate (64 - l.i) 0)

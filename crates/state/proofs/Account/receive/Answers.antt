-- `Account::receive` meets its contract.
use Rattle.std.proofs.Common.{ℕ, ap}
use Rattle.state.specs.Account.{account}
use Rattle.state.proofs.Account.receive.Goals as goal

pub returns : goal.returns
returns c = ap (λ (n : ℕ). account c.args.self.balance.0 n) c.plus.ensures

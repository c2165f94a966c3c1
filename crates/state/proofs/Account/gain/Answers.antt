-- `Account::gain` meets its contract.
use Rattle.std.proofs.Common.{ℕ, ap}
use Rattle.state.specs.Account.{account}
use Rattle.state.proofs.Account.gain.Goals as goal

pub returns : goal.returns
returns c = ap (λ (n : ℕ). account n c.args.self.residual.0) c.plus.ensures

-- `Account::take_size` meets its contract.
use Rattle.std.proofs.Common.{ℕ, ap, arith}
use Rattle.state.specs.Account.{account}
use Rattle.state.proofs.Account.take_size.Goals as goal

pub returns : goal.returns
returns c =
    ap (λ (n : ℕ). account n 0) (omega (arith, c.less.ensures, c.plus-2.ensures, c.plus.ensures))

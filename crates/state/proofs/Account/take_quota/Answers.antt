-- `Account::take_quota` meets its contract.
use Rattle.std.proofs.Common.{ℕ, ◌+◌, ap, ◌∙◌}
use Rattle.state.specs.Account.{account}
use Rattle.state.proofs.Account.take_quota.Goals as goal

pub returns : goal.returns
returns c =
    let a = c.args in
    ap (λ (n : ℕ). account n 0) (c.plus-2.ensures ∙ ap (λ (n : ℕ). n + a.due.0) c.plus.ensures)

-- `lent_accounts::residuals` meets its contract.
use Rattle.std.proofs.Common.{◌≡◌, ◌<◌, refl, ◌∙◌, append-nil, arith}
use Rattle.state.specs.Account.{residual_of}
use Rattle.tree.specs.Sum.{table}
use Rattle.tree.proofs.Tables.{table_none, table_fill}
use Rattle.state.proofs.lent_accounts.residuals.Goals as goal

pub loop-i-init : goal.loop-i-init
loop-i-init c = (omega arith, rw (table_none (residual_of c.args.accounts)) refl)

pub loop-i-preserved : goal.loop-i-preserved
loop-i-preserved c =
    let u : c.loop-i.i < 64 = omega arith in
    (omega arith, rw c.loop-i.invariant.1 (table_fill (residual_of c.args.accounts) 0 64 c.loop-i.i u))

pub returns : goal.returns
returns c =
    let e : c.loop-i.i ≡ 64 = omega arith in
    c.loop-i.invariant.1 ∙ rw e (append-nil (table (residual_of c.args.accounts) 64))

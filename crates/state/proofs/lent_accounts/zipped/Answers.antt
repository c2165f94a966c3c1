-- `lent_accounts::zipped` meets its contract.
use Rattle.std.proofs.Common.{◌≡◌, ◌<◌, refl, ◌∙◌, append-nil, arith}
use Rattle.state.specs.Account.{no_account, account_of}
use Rattle.tree.specs.Sum.{table}
use Rattle.tree.proofs.Tables.{table_none, table_fill}
use Rattle.state.specs.Account.{zip_accounts}
use Rattle.shape.proofs.Read.{list_table}
use Rattle.state.proofs.lent_accounts.zipped.Goals as goal

pub loop-i-init : goal.loop-i-init
loop-i-init c = rw (table_none (account_of (zip_accounts c.args.balance.now c.args.residual.now)), c.none-none.ensures) refl

pub account_of-requires : goal.account_of-requires
account_of-requires c = (omega arith, c.requires)

pub loop-i-preserved : goal.loop-i-preserved
loop-i-preserved c =
    let a = c.args in
    let at = account_of (zip_accounts a.balance.now a.residual.now) in
    let u : c.loop-i.i < 64 = omega arith in
    rw (c.loop-i.invariant, c.account_of.ensures) (table_fill at no_account 64 c.loop-i.i u)

pub returns : goal.returns
returns c =
    let zs = zip_accounts c.args.balance.now c.args.residual.now in
    let e : c.loop-i.i ≡ 64 = omega arith in
    c.loop-i.invariant ∙ rw e (append-nil (table (account_of zs) 64)) ∙ list_table no_account zs 64 c.requires

-- `leaf::pay` meets its contract.
use mathlib.Core.Path.{◌≡◌, refl}
use Prim.Native.Nat.{◌<◌}
use native.Mathlib.Omega.{arith}
use lib.ListN.{length, get_or, set, length-set}
use Rattle.rules.proofs.Fitting.{funds_small, fit_set}
use Rattle.state.specs.Account.{zip_accounts}
use Rattle.state.proofs.Zips.{zip_residual}
use Rattle.steps.proofs.leaf.pay.Goals as goal
use Rattle.steps.proofs.leaf.pay.Goals.{After-gain, After-keep_balance}

pub account_of-leaf-requires : goal.account_of-leaf-requires
account_of-leaf-requires c = (c.requires.1, c.requires.0.many)

pub send-requires : goal.send-requires
send-requires c = rw c.account_of-leaf.ensures c.requires.2

-- the leaf's account is kept
leaf_kept : (k : After-keep_balance)
    → let a = k.args in
    zip_accounts k.keep_balance.new.balance a.residual.now
    ≡ set (zip_accounts a.balance.now a.residual.now) a.i k.send.result
leaf_kept k =
    k.keep_balance.ensures _
    (rw (k.send.ensures, k.account_of-leaf.ensures) (zip_residual _ _ k.args.i (omega (arith, k.requires.1, k.requires.0.many))))

pub account_of-root-requires : goal.account_of-root-requires
account_of-root-requires c =
    (omega arith, rw (leaf_kept c, length-set) c.requires.0.many)

pub gain-requires : goal.gain-requires
gain-requires c =
    let a = c.args in
    let f = fit_set _ a.i c.send.result c.requires.0 c.requires.1
    (rw (c.send.ensures, c.account_of-leaf.ensures) (omega arith)) in
    rw (c.account_of-root.ensures, leaf_kept (goal.at.gain-requires c).After-keep_balance)
    (omega (arith, funds_small _ 0 f (omega arith), funds_small _ a.i c.requires.0 c.requires.1))

-- and so is the root's
root_long : (k : After-keep_balance)
    → 0 < length (zip_accounts k.keep_balance.new.balance k.args.residual.now)
root_long k = rw (leaf_kept k, length-set) (omega (arith, k.requires.0.many))

root_same : (g : After-gain)
    → get_or g.args.residual.now 0 0 ≡ g.gain.result.residual.0
root_same g = rw (g.gain.ensures, g.account_of-root.ensures) (zip_residual _ _ 0 (root_long (goal.at.After-gain g).After-keep_balance))

pub returns : goal.returns
returns c =
    rw (
      c.keep_balance-2.ensures c.args.residual.now (root_same (goal.at.returns c).After-gain),
      c.gain.ensures,
      c.account_of-root.ensures,
      leaf_kept (goal.at.returns c).After-keep_balance,
      c.send.ensures,
      c.account_of-leaf.ensures,
    ) refl

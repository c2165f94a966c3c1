-- `opening::resize` meets its contract.
use mathlib.Core.Path.{refl, ap, ◌∙◌}
use native.Mathlib.Omega.{arith}
use lib.ListN.{set}
use Rattle.state.specs.declared.Account.{Account}
use Rattle.state.specs.Account.{funds_of, took_size, zip_accounts}
use Rattle.opening.proofs.resize.Goals as goal

pub returns-then-surplus : goal.returns-then-surplus
returns-then-surplus c = rw c.if-surplus.true refl

pub take_size-requires : goal.take_size-requires
take_size-requires c =
    let pre = c.requires in
    let root = ap funds_of c.account_of-root.ensures in
    (omega (arith, root, pre.1, pre.2), omega (arith, root, pre.3 c.if-surplus.false))

pub returns : goal.returns
returns c =
    let a = c.args in
    let xs = zip_accounts a.balance.now a.residual.now in
    rw c.if-surplus.false
    (c.keep.ensures
    ∙ ap (set xs 0) (c.take_size.ensures ∙ ap (λ (x : Account). took_size x a.old.0 a.size.0) c.account_of-root.ensures))

-- `inactive::give_up` meets its contract.
use native.Mathlib.Omega.{arith}
use lib.ListN.{length-set}
use Rattle.rules.proofs.Fitting.{funds_small, fit_set}
use Rattle.steps.specs.Fields.{books_of}
use Rattle.steps.proofs.Climbs.{given_by}
use Rattle.steps.proofs.inactive.give_up.Goals as goal

pub account_of-a-requires : goal.account_of-a-requires
account_of-a-requires c = (c.requires.1, c.requires.0.many)

pub account_of-b-requires : goal.account_of-b-requires
account_of-b-requires c =
    (c.requires.2, rw (c.keep.ensures, length-set) c.requires.0.many)

pub funds-requires : goal.funds-requires
funds-requires c =
    rw c.account_of-a.ensures (omega (arith, funds_small _ c.args.i c.requires.0 c.requires.1))

pub receive-requires : goal.receive-requires
receive-requires c =
    let f = fit_set _ c.args.i c.return_balance.result c.requires.0 c.requires.1 (rw c.return_balance.ensures (omega arith)) in
    rw (c.account_of-b.ensures, c.keep.ensures, c.funds.ensures, c.account_of-a.ensures)
    (omega (arith, funds_small _ c.args.p f c.requires.2, funds_small _ c.args.i c.requires.0 c.requires.1))

pub without-requires : goal.without-requires
without-requires c =
    c.requires.1

pub returns : goal.returns
returns c =
    let g = c.args in
    λ t e.
    given_by t g.i g.p (books_of g.active g.balance.now g.residual.now) _ _ _ _ _ _ _ _
    e c.without.ensures c.account_of-a.ensures c.return_balance.ensures c.keep.ensures c.account_of-b.ensures
    c.funds.ensures c.receive.ensures c.keep-2.ensures

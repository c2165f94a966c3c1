-- `opening::share_out` meets its contract.
use mathlib.Core.Path.{refl, ap}
use native.Mathlib.Omega.{arith}
use Rattle.state.specs.declared.Account.{Account}
use Rattle.rules.proofs.Shares.{quota_back}
use Rattle.opening.proofs.share_out.Goals as goal

pub due-requires : goal.due-requires
due-requires c =
    omega (
      arith,
      quota_back _ c.args.sum.0 c.args.sum.0 c.quota-quota.result refl c.quota-quota.ensures,
      ap
          (λ (x : Account). x.balance.0) c.take_quota-taken.ensures,
      c.requires.0,
      c.requires.1,
    )

pub hand_down-account-requires : goal.hand_down-account-requires
hand_down-account-requires c =
    omega (arith, c.due.ensures, quota_back _ c.args.sum.0 c.args.sum.0 c.quota-quota.result refl c.quota-quota.ensures)

pub returns : goal.returns
returns c =
    rw (c.hand_down-account.ensures, c.due.ensures, c.quota-quota.ensures, c.take_quota-taken.ensures) refl

-- `take_from_parent` meets its contract.
use mathlib.Core.Path.{◌≡◌, refl}
use native.Mathlib.Omega.{arith}
use lib.ListN.{length-set}
use lib.Seq.{get_or-set_other}
use Rattle.state.specs.Account.{no_account}
use Rattle.asking.proofs.take_from_parent.Goals as goal

pub take-requires : goal.take-requires
take-requires c =
    let other : c.args.i ≡ c.args.p → ⊥ = λ e. omega (arith, c.requires.0) in (
      c.requires.1,
      rw (c.hand.ensures, length-set) c.requires.2,
      rw (c.hand.ensures, get_or-set_other _ c.args.p c.args.i _ no_account other, c.due-due.ensures) c.requires.5,
    )

pub returns : goal.returns
returns c =
    record {
      accounts_are = rw (c.take.ensures.0, c.hand.ensures, c.due-due.ensures) refl;
      quotas_are = rw (c.take.ensures.1, c.hand.ensures, c.due-due.ensures) refl;
    }

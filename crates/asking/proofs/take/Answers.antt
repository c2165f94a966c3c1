-- `take` meets its contract.
use mathlib.Core.Path.{refl}
use Rattle.asking.proofs.take.Goals as goal

pub take_quota-b-requires : goal.take_quota-b-requires
take_quota-b-requires c = rw c.account_of-a.ensures c.requires.2

pub returns : goal.returns
returns c = (
  rw (c.keep.ensures, c.take_quota-b.ensures, c.account_of-a.ensures) refl,
  rw (c.quota.ensures, c.take_quota-b.ensures, c.account_of-a.ensures) refl,
)

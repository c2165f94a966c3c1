-- `allot::allot` meets its contract.
use mathlib.Core.Path.{refl}
use native.Mathlib.Omega.{arith}
use Rattle.allot.proofs.Requests.{requested_adding}
use Rattle.allot.proofs.Answers.{shared_out_lem}
use Rattle.allot.proofs.allot.Goals as goal

pub share_out-shares-requires : goal.share_out-shares-requires
share_out-shares-requires c =
    let adds =
    requested_adding c.args.tree c.args.table c.requires c.all_requests-requests.result c.all_requests-requests.ensures
    in
    (adds, omega (arith, c.min-has.ensures, adds.small 0))

pub returns : goal.returns
returns c = (
  refl,
  shared_out_lem c.args.tree c.args.capacity c.args.table c.all_requests-requests.result c.share_out-shares.result
      c.min-has.result c.requires c.all_requests-requests.ensures c.min-has.ensures c.share_out-shares.ensures,
)

-- `allot::fair_share` meets its contract: the lower number fits, the higher does not, and both come together.
use mathlib.Core.Path.{◌≡◌}
use Prim.Native.Nat.{◌+◌}
use native.Mathlib.Omega.{arith}
use Rattle.allot.specs.Request.{entry}
use Rattle.allot.proofs.Fair.{fits_zero, largest_at, top_too_large}
use Rattle.allot.proofs.fair_share.Goals as goal

pub loop-low-init : goal.loop-low-init
loop-low-init c =
    let a = c.args in (
      omega arith,
      omega arith,
      fits_zero a.tree (entry a.requests) a.p a.has,
      top_too_large a.tree (entry a.requests)
          a.p a.has c.requires.0.rules c.requires.1,
    )

pub returns : goal.returns
returns c =
    let a = c.args in
    let e : c.loop-low.high ≡ c.loop-low.low + 1 = omega arith in
    (largest_at a.tree (entry a.requests) a.p a.has c.loop-low.low c.loop-low.invariant.2 (rw e at c.loop-low.invariant.3), omega arith)

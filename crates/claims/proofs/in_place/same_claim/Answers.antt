-- `in_place::same_claim` meets its contract.
use mathlib.Core.Bool.{Bool, true, false, not, cond}
use mathlib.Core.Path.{◌≡◌, refl}
use Rattle.std.specs.Prelude.{Some, None}
use Rattle.plan.specs.declared.Arrived.{Arrived}
use Rattle.claims.specs.Recording.{same_claim}
use Rattle.claims.specs.Steps.{packet_of}
use Rattle.claims.proofs.in_place.same_claim.Goals as goal

-- nothing waits where no packet has gone
idle_same : (some : Bool) (a : Arrived) → not some ≡ same_claim None (cond some (Some a) None)
idle_same true a = refl
idle_same false a = refl

pub returns-then-some : goal.returns-then-some
returns-then-some c =
    rw (c.in-Some.is, c.if-some.true) c.same_packet.ensures

pub returns-in-None : goal.returns-in-None
returns-in-None c = let w = c.args.went in rw c.in-None.is (idle_same w.some (packet_of w))

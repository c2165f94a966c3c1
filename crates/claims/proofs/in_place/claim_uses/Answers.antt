-- `in_place::claim_uses` meets its contract.
use mathlib.Core.Path.{sym, ap}
use Prim.Native.Nat.{◌+◌}
use Rattle.plan.specs.Entry.{claim_uses, Claim}
use Rattle.claims.proofs.in_place.claim_uses.Goals as goal

pub returns-in-Some : goal.returns-in-Some
returns-in-Some c = sym (ap (λ (x : Claim). 1 + claim_uses x) c.in-Some.is)

pub returns-in-None : goal.returns-in-None
returns-in-None c = sym (ap (λ (x : Claim). 1 + claim_uses x) c.in-None.is)

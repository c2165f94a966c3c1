-- `in_place::compared` meets its contract.
use mathlib.Core.Path.{sym, ap, ◌∙◌}
use Prim.Native.Nat.{ℕ, ◌+◌}
use Rattle.claims.specs.Steps.{did_go_on}
use Rattle.claims.proofs.in_place.compared.Goals as goal

pub returns-then-not-same_claim : goal.returns-then-not-same_claim
returns-then-not-same_claim c =
    rw (sym c.same_claim.ensures ∙ c.if-not-same_claim.true) c.decides.ensures

pub returns : goal.returns
returns c =
    let a = c.args in
    rw (sym c.same_claim.ensures ∙ c.if-not-same_claim.false)
    (c.goes_on.ensures
    ∙ ap (λ (n : ℕ). did_go_on (a.place + n) (a.claims + 1) a.went.stand) c.claim_uses.ensures)

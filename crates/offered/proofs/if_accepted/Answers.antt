-- `offered::if_accepted` meets its contract: the arrival's answer, and the promise for the bytes that it answers.
use mathlib.Core.Path.{sym, ap, ◌∙◌}
use Prim.Native.Nat.{ℕ}
use Rattle.checks.specs.Check.{Verdict}
use Rattle.offered.specs.Offer.{wait_by}
use Rattle.offered.proofs.Offering.{promise_is_bound}
use Rattle.offered.proofs.if_accepted.Goals as goal

pub returns-in-Ok : goal.returns-in-Ok
returns-in-Ok c =
    let a = c.args in
    let after = c.arrive-after.result in
    let d = after.answer.bytes.0 in
    let wait =
    promise_is_bound a.link a.class a.length after c.arrive-after.ensures c.in-Ok.is c.longest_wait-promise.result
    c.longest_wait-promise.ensures
    ∙ sym (ap (λ (v : Verdict). wait_by v a.link a.class d) c.in-Ok.is)
    in
    record {
      after = after;
      arrives = c.arrive-after.ensures;
      answer = ap (λ (n : ℕ). record { verdict = after.answer.verdict; bytes = after.answer.bytes; wait = record { 0 = n } }) wait;
    }

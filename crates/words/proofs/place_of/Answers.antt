-- `words::place_of` meets its contract.
use Rattle.std.proofs.Common.{◌≡◌, ◌∙◌, rules, tests}
use Rattle.std.proofs.lemmas.Iterator.{IsFirst-from_position, YieldsList-from_slice}
use Rattle.words.proofs.Places.{place_is}
use Rattle.words.proofs.place_of.Goals as goal

pub returns-clause-place : goal.returns-clause-place
returns-clause-place c =
    let a = c.args in
    let text = a.text.now in
    let found =
    IsFirst-from_position _ _ c.position.result (λ b. b ≡ a.byte) (λ b. b ≡ a.byte → ⊥) c.position.ensures.ran (YieldsList-from_slice text cc)
    (λ x q k. search (rules, tests)) (λ x q k. search (rules, tests)) in
    let stops = place_is a.byte text c.position.result found in
    search (rules, tests)

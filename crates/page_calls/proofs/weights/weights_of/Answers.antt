-- `page_calls::weights::weights_of` meets its contract.
use lib.ListN.{get_or}
use Rattle.std.proofs.Common.{rules}
use Rattle.page_calls.proofs.Mapped.{mapped}
use Rattle.page_calls.proofs.weights.weights_of.Goals as goal

pub returns : goal.returns
returns c =
    mapped (λ p. record { 0 = get_or c.args.numbers.now p 0 }) 64 c.map.result c.map.ensures.items.long (λ k e h.
    let call = c.map.ensures.items.at k 0 e h in
    let gave = call.2 in
    search rules)

-- `page_calls::weights::weight_numbers` meets its contract.
use lib.ListN.{get_or}
use Rattle.std.proofs.Common.{rules}
use Rattle.tree.specs.Class.{no_weight}
use Rattle.page_calls.proofs.Mapped.{mapped}
use Rattle.page_calls.proofs.weights.weight_numbers.Goals as goal

pub returns : goal.returns
returns c =
    mapped (λ p. (get_or c.args.weights p no_weight).0) 64 c.map.result c.map.ensures.items.long (λ k e h.
    let call = c.map.ensures.items.at k no_weight e h in
    let gave = call.2 in
    search rules)

-- `page_calls::olds_of` meets its contract.
use Rattle.std.proofs.Common.{rules}
use Rattle.mended.specs.Answer.{no_change}
use Rattle.page_calls.specs.Kept.{old_at}
use Rattle.page_calls.proofs.Mapped.{mapped}
use Rattle.page_calls.proofs.olds_of.Goals as goal

pub returns : goal.returns
returns c =
    mapped (old_at c.args.changes) 64 c.map.result c.map.ensures.items.long (λ k e h.
    let call = c.map.ensures.items.at k no_change e h in
    let gave = call.2 in
    search rules)

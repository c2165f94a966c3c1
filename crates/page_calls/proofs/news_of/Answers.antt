-- `page_calls::news_of` meets its contract.
use Rattle.std.proofs.Common.{rules}
use Rattle.mended.specs.Answer.{no_change}
use Rattle.page_calls.specs.Kept.{new_at}
use Rattle.page_calls.proofs.Mapped.{mapped}
use Rattle.page_calls.proofs.news_of.Goals as goal

pub returns : goal.returns
returns c =
    mapped (new_at c.args.changes) 64 c.map.result c.map.ensures.items.long (λ k e h.
    let call = c.map.ensures.items.at k no_change e h in
    let gave = call.2 in
    search rules)

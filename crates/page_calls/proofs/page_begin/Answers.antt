-- `page_calls::page_begin` meets its contract.
use Rattle.page_calls.proofs.page_begin.Goals as goal

pub returns : goal.returns
returns c = rw c.first-step.ensures at c.lay.ensures.lays

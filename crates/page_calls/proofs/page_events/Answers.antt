-- `page_calls::page_events` meets its contract.
use Rattle.page_calls.proofs.page_events.Goals as goal

pub returns : goal.returns
returns c =
    rw c.first-step.ensures at c.events_of.ensures

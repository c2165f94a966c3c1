-- `queue::put` meets its contract.
use Rattle.std.proofs.Common.{refl}
use Rattle.state.proofs.queue.put.Goals as goal

pub returns : goal.returns
returns c =
    let at = c.free_place-at.ensures.0 in
    λ l. rw at refl

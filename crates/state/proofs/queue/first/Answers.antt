-- `queue::first` meets its contract: the first packet lies at the queue's start.
use Rattle.std.proofs.Common.{sym}
use Rattle.state.specs.Queue.{queued}
use Rattle.state.proofs.Queues.{packet_first}
use Rattle.state.proofs.queue.first.Goals as goal

pub returns : goal.returns
returns c =
    let a = c.args in
    λ l held. rw (c.slot-at.ensures.0, c.from.ensures)
    (sym (packet_first (queued l a.start.now held a.lengths.now a.tags.now a.marks.now) a.class c.requires.1))

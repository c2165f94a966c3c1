-- `allot::all_requests` meets its contract: from the highest class down, each class adds itself to its parent.
use Rattle.allot.proofs.Requests.{Added}
use Rattle.allot.proofs.all_requests.Given as goal

abbrev pub invariant-loop-i : goal.invariant-loop-i
invariant-loop-i l = Added l.tree l.table l.i l.requests

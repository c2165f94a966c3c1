-- `totals::sum_of` meets its contract: class by class, the lowest first.
use Rattle.sets.specs.Set.{Next}
use Rattle.totals.proofs.Passing.{Adding}
use Rattle.totals.proofs.sum_of.Given as goal

abbrev pub invariant-loop-i : goal.invariant-loop-i
invariant-loop-i l =
    Adding l.set l.packets l.rest l.many × Adding l.set l.bytes l.rest l.cost × Next l.rest 0 l.i

abbrev pub decreases-loop-i : goal.decreases-loop-i
decreases-loop-i l = l.rest

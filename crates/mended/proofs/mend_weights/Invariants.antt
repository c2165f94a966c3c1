-- `mend::mend_weights` meets its contract: class by class downward, 22 or the mended weight.
use Rattle.mended.proofs.Downward.{MendedAbove}
use Rattle.mended.proofs.mend_weights.Given as goal

abbrev pub invariant-loop-i : goal.invariant-loop-i
invariant-loop-i l = MendedAbove l.tree l.i l.sums l.at

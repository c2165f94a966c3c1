-- `checkrun::main` does no harm: a check stands within its window.
use Rattle.std.proofs.Common.{◌≤◌}
use Rattle.checkrun.proofs.main.Given as goal

abbrev pub invariant-loop-window : goal.invariant-loop-window
invariant-loop-window l = (l.n ≤ 65_536) × (l.at.from ≤ l.n)

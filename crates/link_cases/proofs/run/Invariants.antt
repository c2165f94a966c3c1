-- `link_cases::run` ends: each command has a byte at least.
use Rattle.std.proofs.Common.{length, ◌-◌}
use Rattle.link_cases.proofs.run.Given as goal

abbrev pub decreases-loop-at : goal.decreases-loop-at
decreases-loop-at g l = length l.input - l.at

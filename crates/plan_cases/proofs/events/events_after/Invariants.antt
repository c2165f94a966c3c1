-- `plan_cases::events::events_after` ends: each event uses a byte at least.
use Rattle.std.proofs.Common.{length, ◌+◌, ◌-◌}
use Rattle.plan_cases.proofs.events.events_after.Given as goal

abbrev pub decreases-loop-at : goal.decreases-loop-at
decreases-loop-at g l = length l.events + 1 - l.at

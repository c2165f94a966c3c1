-- `shown::read_after` ends: each turn reads a byte at least. What the buffer held stays.
use Rattle.std.proofs.Common.{◌≡◌, ◌-◌, ◌≤◌, length, take}
use Rattle.shown.proofs.read_after.Given as goal

abbrev pub invariant-loop-done : goal.invariant-loop-done
invariant-loop-done g l =
    (l.done ≤ length l.buf) × (l.initial.done ≤ l.done) × (take l.initial.done l.buf ≡ take l.initial.done l.initial.buf)

abbrev pub decreases-loop-done : goal.decreases-loop-done
decreases-loop-done g l = length l.buf - l.done

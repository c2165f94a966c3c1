-- `linkstream::main` does no harm: there are only so many windows, and a place in the input is a number of 64 bits.
use Rattle.std.proofs.Common.{◌*◌, ◌≤◌}
use Rattle.linkstream.proofs.main.Given as goal

abbrev pub invariant-loop-window : goal.invariant-loop-window
invariant-loop-window l = (l.n ≤ 65_536) × (l.at.place ≤ l.n) × (l.at.offset ≤ 65_536 * l._window)

-- `written::plan_length` meets its contract.
use mathlib.Core.Path.{◌≡◌}
use Prim.Native.Nat.{◌+◌, ◌-◌, ◌≤◌}
use Rattle.written.proofs.Lengths.{length_to}
use Rattle.written.proofs.plan_length.Given as goal

abbrev pub invariant-loop-i : goal.invariant-loop-i
invariant-loop-i l = (1 ≤ l.i) × (l.i ≤ l.tree.count + 1) × (l.n ≡ l.initial.n + length_to l.tree.leaves (l.i - 1))

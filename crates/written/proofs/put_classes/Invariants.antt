-- `written::put_classes` meets its contract: one class after the other.
use mathlib.Core.Path.{◌≡◌}
use Prim.Native.Nat.{◌+◌, ◌-◌, ◌≤◌}
use lib.ListN.{length}
use Rattle.digits.specs.Laid.{LaidAt}
use Rattle.written.specs.Bytes.{classes_bytes}
use Rattle.written.proofs.put_classes.Given as goal

abbrev pub invariant-loop-i : goal.invariant-loop-i
invariant-loop-i l =
    (1 ≤ l.i) × (l.i ≤ l.n + 1) × LaidAt l.at (classes_bytes l.tree (l.i - 1)) l.initial.out l.next l.out × (length l.out ≡ length l.initial.out)

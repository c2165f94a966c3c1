-- `mend::list_changes` meets its contract: class by class upward, one entry where the weight is another.
use mathlib.Core.Path.{◌≡◌}
use Prim.Native.Nat.{◌+◌, ◌-◌, ◌≤◌}
use Rattle.mended.specs.Answer.{changes_to, listed}
use Rattle.mended.proofs.list_changes.Given as goal

abbrev pub invariant-loop-i : goal.invariant-loop-i
invariant-loop-i l =
    (1 ≤ l.i) × (l.i ≤ l.tree.count + 1) × (l.changes ≡ listed (changes_to l.tree (l.i - 1)))

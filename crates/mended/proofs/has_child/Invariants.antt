-- `mend::has_child` meets its contract.
use mathlib.Core.Bool.{false}
use mathlib.Core.Path.{◌≡◌}
use Prim.Native.Nat.{ℕ, ◌+◌, ◌≤◌, ◌<◌}
use Rattle.tree.specs.Class.{is_child}
use Rattle.mended.proofs.has_child.Given as goal

abbrev pub invariant-loop-i : goal.invariant-loop-i
invariant-loop-i l = (1 ≤ l.i) × (l.i ≤ l.tree.count + 1) × ((k : ℕ) → 1 ≤ k → k < l.i → is_child l.tree l.p k ≡ false)

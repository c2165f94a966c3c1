-- `after_end::parents` meets its contract.
use mathlib.Core.Path.{◌≡◌}
use Prim.Native.Nat.{ℕ, ◌+◌, ◌-◌, ◌≤◌, ◌<◌}
use Rattle.sets.specs.Set.{has}
use Rattle.tree.specs.Class.{is_child}
use Rattle.tree.specs.Sum.{some_to}
use Rattle.tree.proofs.after_end.parents.Given as goal

abbrev pub invariant-loop-child : goal.invariant-loop-child
invariant-loop-child l =
    (1 ≤ l.child) × (l.child ≤ l.tree.count + 1) × ((p : ℕ) → p < 64 → has l.parents p ≡ some_to (is_child l.tree p) (l.child - 1))

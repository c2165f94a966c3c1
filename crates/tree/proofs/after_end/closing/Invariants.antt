-- `after_end::closing` meets its contract: number 9, then class by class upward numbers 8 and 7.
use mathlib.Core.Path.{◌≡◌}
use Prim.Native.Nat.{ℕ, ◌+◌, ◌≤◌, ◌<◌}
use Rattle.std.specs.Prelude.{Ok}
use Rattle.checks.specs.Check.{first_broken}
use Rattle.tree.specs.Rules.{closing_of}
use Rattle.tree.proofs.after_end.closing.Given as goal

abbrev pub invariant-loop-i : goal.invariant-loop-i
invariant-loop-i l = (1 ≤ l.i) × (l.i ≤ l.tree.count + 1) × ((k : ℕ) → 1 ≤ k → k < l.i → first_broken (closing_of l.tree k) ≡ Ok tt)

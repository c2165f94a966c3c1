-- `allot::request_fault` meets its contract: class by class upward number 21.
use mathlib.Core.Path.{◌≡◌}
use Prim.Native.Nat.{ℕ, ◌+◌, ◌≤◌, ◌<◌}
use Rattle.std.specs.Prelude.{Ok}
use Rattle.checks.specs.Check.{first_broken}
use Rattle.allot.specs.Answer.{request_checks}
use Rattle.allot.proofs.request_fault.Given as goal

abbrev pub invariant-loop-i : goal.invariant-loop-i
invariant-loop-i l =
    (1 ≤ l.i) × (l.i ≤ l.tree.count + 1) × ((k : ℕ) → 1 ≤ k → k < l.i → first_broken (request_checks l.tree l.table k) ≡ Ok tt)

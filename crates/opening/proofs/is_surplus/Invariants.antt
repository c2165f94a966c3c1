-- `opening::is_surplus` meets its contract.
use mathlib.Core.Bool.{false}
use mathlib.Core.Path.{◌≡◌}
use Prim.Native.Nat.{ℕ, ◌-◌, ◌≤◌, ◌<◌}
use Rattle.shape.specs.Shape.{tree_in}
use Rattle.rules.specs.Opening.{has_surplus}
use Rattle.state.specs.Account.{zip_accounts}
use Rattle.opening.proofs.is_surplus.Given as goal

abbrev pub invariant-loop-i : goal.invariant-loop-i
invariant-loop-i l =
    (1 ≤ l.i) × (l.i ≤ 64) × ((k : ℕ) → 1 ≤ k → k < l.i → has_surplus (tree_in l.shape) l.active (zip_accounts l.balance l.residual) k ≡ false)

abbrev pub decreases-loop-i : goal.decreases-loop-i
decreases-loop-i l = 64 - l.i

-- `active::waiting_leaves` meets its contract.
use mathlib.Core.Bool.{Bool, ◌&&◌}
use mathlib.Core.Path.{◌≡◌}
use Prim.Native.Nat.{ℕ, ◌≤◌, ◌<◌}
use lib.Dec.{leb, ltb}
use lib.ListN.{get_or}
use Rattle.sets.specs.Set.{has}
use Rattle.active.proofs.waiting_leaves.Given as goal

-- the set has come to class i: it holds the classes below it that f tells
abbrev pub Filled : (ℕ → Bool) → ℕ → ℕ → Type 0
Filled f set i = (k : ℕ) → k < 64 → has set k ≡ (ltb k i && f k)

abbrev pub invariant-loop-i : goal.invariant-loop-i
invariant-loop-i l = (l.i ≤ 64) × Filled (λ k. leb 1 (get_or l.held k 0)) l.waiting l.i

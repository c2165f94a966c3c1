-- `active::refresh` meets its contract.
use mathlib.Core.List.{List, ◌++◌}
use mathlib.Core.Path.{◌≡◌}
use Prim.Native.Nat.{ℕ, ◌≤◌}
use lib.ListN.{length, get_or, drop}
use Rattle.units.specs.declared.Weight.{Weight}
use Rattle.tree.specs.Class.{no_weight}
use Rattle.tree.specs.Sum.{table}
use Rattle.active.proofs.refresh.Given as goal

abbrev pub weight_at : List Weight → ℕ → ℕ
weight_at weights p = (get_or weights p no_weight).0

abbrev pub invariant-loop-i : goal.invariant-loop-i
invariant-loop-i l = (l.i ≤ 64) × (length l.initial.kept ≡ 64 → l.kept ≡ table (weight_at l.sum-items) l.i ++ drop l.i l.initial.kept)

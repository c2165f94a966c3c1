-- `back::tree_of` meets its contract.
use mathlib.Core.List.{List, ◌++◌}
use mathlib.Core.Path.{◌≡◌}
use Prim.Native.Nat.{ℕ, ◌+◌, ◌-◌, ◌≤◌}
use lib.ListN.{get_or, replicate}
use Rattle.units.specs.declared.Weight.{Weight}
use Rattle.tree.specs.Class.{no_weight}
use Rattle.tree.specs.Sum.{table}
use Rattle.shape.proofs.back.tree_of.Given as goal

-- the numbers of a class
abbrev pub parent_at : List ℕ → ℕ → ℕ
parent_at s i = get_or s i 0

abbrev pub weight_at : List ℕ → ℕ → Weight
weight_at s i = record { 0 = get_or s (64 + i) 0 }

abbrev pub longest_at : List ℕ → ℕ → ℕ
longest_at s i = get_or s (128 + i) 0

abbrev pub invariant-loop-i : goal.invariant-loop-i
invariant-loop-i l =
    (l.i ≤ 64) × (l.parent ≡ table (parent_at l.shape) l.i ++ replicate (64 - l.i) 0)
    × (l.weight ≡ table (weight_at l.shape) l.i ++ replicate (64 - l.i) no_weight)
    × (l.longest ≡ table (longest_at l.shape) l.i ++ replicate (64 - l.i) 0)

-- All that other proofs use of a packet's cost: it is at least 1, grows with the length, and is bounded over the lengths of a plan (R18).
use Prim.Native.Nat.{ℕ, ◌≤◌}
use native.Mathlib.Omega.{arith}
use Rattle.units.specs.Cost.{cost_of, most_cost}

pub cost_positive : (n : ℕ) → 1 ≤ n → 1 ≤ cost_of n
unfolding cost_of
cost_positive n h = omega arith

pub cost_grows : (m n : ℕ) → m ≤ n → cost_of m ≤ cost_of n
unfolding cost_of
cost_grows m n h = omega arith

pub cost_ceiling : (n : ℕ) → n ≤ 9_216 → cost_of n ≤ most_cost
unfolding cost_of
cost_ceiling n h = omega arith

-- Laws of the running total and of a mark: what was charged since it was taken is told across a wrap too. Demands 2 and 3.
use Rattle.std.proofs.Common.{◌≡◌, ℕ, ◌+◌, ◌^◌, ◌<◌, arith}
use Rattle.state.specs.Mark.{wrapped, since}

-- what a running total has grown by since a mark was taken
pub since_grown : (mark grown : ℕ) → grown < 2 ^ 64 → since (wrapped (mark + grown)) mark ≡ grown
since_grown mark grown h = omega (arith, h)

-- a total that wraps twice wraps once
pub wraps_once : (a b c : ℕ) → wrapped (wrapped (a + b) + c) ≡ wrapped (a + (b + c))
wraps_once a b c = omega arith

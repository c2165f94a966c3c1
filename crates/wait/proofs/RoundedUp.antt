-- Laws of a division that rounds up. Demand 3.
use mathlib.Core.Path.{◌≡◌}
use Prim.Native.Nat.{ℕ, ◌+◌, ◌-◌, ◌/◌, ◌≤◌}
use native.Mathlib.Decide.{ℕ_discrete}
use native.Mathlib.Nat.{le-div_iff_mul-le, div-mul-le_self, div-eq_of_lt, div-eq-sub-div, div-le_self}
use native.Mathlib.Omega.{arith}
use Rattle.wait.specs.Wait.{over_rounded_up}

-- more over the same weight is no less
over_grows : (a b w : ℕ) → 1 ≤ w → a ≤ b → a / w ≤ b / w
over_grows a b w l h = (le-div_iff_mul-le {k = w} {x = a / w} {y = b} l).1 (omega (arith, div-mul-le_self a w))

pub up_grows : (a b w : ℕ) → 1 ≤ w → a ≤ b → over_rounded_up a w ≤ over_rounded_up b w
up_grows a b w l h = over_grows _ _ w l (omega arith)

-- nothing over a weight is nothing
pub up_none : (w : ℕ) → 1 ≤ w → over_rounded_up 0 w ≡ 0
up_none w l = div-eq_of_lt {m = w} (omega arith)

-- something that falls by the weight, or to nothing, falls by one
pub up_falls : (a b w : ℕ) → 1 ≤ w → 1 ≤ b → a ≤ b - w → over_rounded_up a w + 1 ≤ over_rounded_up b w
up_falls a b w l some h = omega (arith, last, go (ℕ_discrete a 0))
  where
    last : (b + w - 1) / w ≡ (b + w - 1 - w) / w + 1
    last = div-eq-sub-div {m = w} {n = b + w - 1} l (omega arith)

    go : Dec (a ≡ 0) → (a + w - 1) / w ≤ (b + w - 1 - w) / w
    go (yes z) = rw z (omega (arith, up_none w l))
    go (no z) = over_grows (a + w - 1) (b + w - 1 - w) w l (omega arith)

-- something over a weight is something
pub up_some : (b w : ℕ) → 1 ≤ w → 1 ≤ b → 1 ≤ over_rounded_up b w
up_some b w l some = omega (arith, up_falls 0 b w l some (omega arith))

-- and no more than both together
pub up_most : (b w : ℕ) → over_rounded_up b w ≤ b + w
up_most b w = omega (arith, div-le_self (b + w - 1) w)

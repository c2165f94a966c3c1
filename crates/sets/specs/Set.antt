-- Sets of classes, numbered 0 to 63: each fits a 64-bit number, and the next class is its lowest set bit from a given place on (R19, R20).
use Rattle.std.specs.Prelude.{◌≡◌, Bool, true, false, cond, ◌&&◌, ℕ, ◌+◌, ◌-◌, ◌/◌, ◌%◌, ◌^◌, ◌≤◌, ◌<◌, eqb}

-- class i is in the set s (R19)
unfoldable pub has : ℕ → ℕ → Bool
has s i = eqb (s / 2 ^ i % 2) 1

-- the set s with class i (R19)
unfoldable pub with : ℕ → ℕ → ℕ
with s i = cond (has s i) s (s + 2 ^ i)

-- the set s without class i (R19)
unfoldable pub without : ℕ → ℕ → ℕ
without s i = cond (has s i) (s - 2 ^ i) s

-- c is the set of the classes that are in a and in b
pub record Both (a b c : ℕ) : Type 0 where
  pub fits : c < 2 ^ 64
  pub both : (k : ℕ) → has c k ≡ (has a k && has b k)

-- r is the lowest class of the set s that is not below the place, or 64 where there is none (R20)
pub record Next (s place r : ℕ) : Type 0 where
  pub low : place ≤ r
  pub high : r ≤ 64
  pub between : (k : ℕ) → place ≤ k → k < r → has s k ≡ false
  pub found : r < 64 → has s r ≡ true

-- `speed::number` meets its contract: sums that wrap are one sum that wraps.
use Rattle.std.proofs.Common.{◌≡◌, ℕ, ◌+◌, ◌%◌, ◌^◌, refl, arith}
use Rattle.speed.proofs.number.Goals as goal

-- a number and one more, each of them wrapped or not
wraps : (s b x y : ℕ) → x ≡ s % 2 ^ 64 → y ≡ (x + b % 2 ^ 64) % 2 ^ 64 → y ≡ (s + b) % 2 ^ 64
wraps s b x y e f = omega (arith, e, f)

wraps_last : (s b x y : ℕ) → x ≡ s % 2 ^ 64 → y ≡ (x + b) % 2 ^ 64 → y ≡ (s + b) % 2 ^ 64
wraps_last s b x y e f = omega (arith, e, f)

pub returns-in-Ok : goal.returns-in-Ok
returns-in-Ok c =
    rw c.in-Ok.is
    (wraps_last _ _ _ _ (wraps _ _ _ _ (wraps _ _ _ _ refl c.wrapping_add_u64-packet.ensures.value) c.wrapping_add_u64.ensures.value)
    c.wrapping_add_u64-in-Ok.ensures.value)

pub returns-in-Err : goal.returns-in-Err
returns-in-Err c = rw c.in-Err.is refl

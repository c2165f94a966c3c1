-- A number's bytes as the machine lays them, the highest first, are those of a record (R48, R259).
use mathlib.Core.List.{[], ◌∷◌}
use mathlib.Core.Path.{◌≡◌, ap}
use Prim.Native.Nat.{ℕ, ◌^◌, ◌/◌, ◌%◌, ◌<◌}
use native.Mathlib.Omega.{arith}
use Rattle.std.specs.Int.{to_be_bytes, w16, w32}
use Rattle.written.specs.Bytes.{bytes16, bytes32}

pub as_bytes16 : (n : ℕ) → n < 2 ^ 16 → to_be_bytes w16 n ≡ bytes16 n
as_bytes16 n fits =
    let high : n / 256 % 256 ≡ n / 256 = omega arith in
    ap (λ (h : ℕ). h ∷ n % 256 ∷ []) high

pub as_bytes32 : (n : ℕ) → n < 2 ^ 32 → to_be_bytes w32 n ≡ bytes32 n
as_bytes32 n fits =
    let high : n / 16_777_216 % 256 ≡ n / 16_777_216 = omega arith in
    ap (λ (h : ℕ). h ∷ n / 65_536 % 256 ∷ n / 256 % 256 ∷ n % 256 ∷ []) high

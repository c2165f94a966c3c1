-- `command::number_32` meets its contract.
use mathlib.Core.Path.{◌≡◌, ap}
use Prim.Native.Nat.{ℕ, ◌+◌}
use native.Mathlib.Omega.{arith}
use Rattle.plan.specs.Record.{byte_at}
use Rattle.packed.proofs.command.number_32.Goals as goal

pub returns : goal.returns
returns c =
    let a = c.args in
    let last : byte_at a.s.now (a.k + 2 + 1) ≡ byte_at a.s.now (a.k + 3) =
    ap (λ (n : ℕ). byte_at a.s.now n) (omega arith)
    in
    (omega (arith, c.number_16.ensures.0, c.number_16-2.ensures.0, last), omega arith)

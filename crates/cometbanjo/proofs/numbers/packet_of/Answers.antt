-- `numbers::packet_of` meets its contract.
use mathlib.Core.Path.{ap}
use Prim.Native.Nat.{ℕ}
use Rattle.cometbanjo.proofs.numbers.packet_of.Goals as goal

pub returns : goal.returns
returns c = ap (λ (n : ℕ). record { length = n; tag = c.args.tag }) c.met.ensures

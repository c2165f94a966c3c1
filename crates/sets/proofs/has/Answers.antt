-- `sets::has` meets its contract: the lowest digit of the shifted set is the digit of the class.
use mathlib.Core.Path.{ap}
use Prim.Native.Nat.{ℕ, ◌/◌, ◌^◌}
use lib.Bits.{and_mask}
use lib.Dec.{eqb}
use Rattle.sets.specs.Set.{has}
use Rattle.sets.proofs.has.Goals as goal

pub returns : goal.returns
unfolding has
returns c = ap (λ (x : ℕ). eqb x 1) (and_mask (c.args.set / 2 ^ c.args.class) 1)

-- `stream::carry` meets its contract: the bytes are copied to the front, and what lies after them stays.
use mathlib.Core.List.{◌++◌}
use mathlib.Core.Path.{refl, ap, ◌∙◌}
use Prim.Native.Nat.{ℕ, ◌-◌}
use native.Mathlib.Nat.{zero-add}
use lib.ListN.{take, drop}
use Rattle.stream.proofs.carry.Goals as goal

pub returns : goal.returns
returns c =
    let a = c.args in
    let w = a.window.now in
    let n = a.to - a.from in
    record {
      value = refl;
      window_after = c.copy_within.ensures.after ∙ ap (λ (k : ℕ). take n (drop a.from w) ++ drop k w) (zero-add n);
    }

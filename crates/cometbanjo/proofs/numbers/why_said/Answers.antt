-- `numbers::why_said` meets its contract.
use mathlib.Core.List.{[], ◌∷◌}
use mathlib.Core.Path.{sym, ap, ap₂, ◌∙◌}
use Prim.Native.Nat.{ℕ}
use Rattle.cometbanjo.specs.Numbers.{why_said}
use Rattle.cometbanjo.proofs.numbers.why_said.Goals as goal

pub returns-in-Ok : goal.returns-in-Ok
returns-in-Ok c =
    ap₂ (λ (n m : ℕ). 0 ∷ 0 ∷ n ∷ m ∷ []) c.reason_number.ensures c.lacking.ensures
    ∙ ap why_said (sym c.in-Ok.is)

pub returns-in-Err : goal.returns-in-Err
returns-in-Err c = rw c.number.ensures (ap why_said (sym c.in-Err.is))

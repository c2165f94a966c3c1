-- `page_calls::part_says` meets its contract.
use mathlib.Core.Bool.{Bool, true, false, cond}
use mathlib.Core.List.{[], ◌∷◌}
use mathlib.Core.Path.{◌≡◌, refl, ap, ◌∙◌}
use mir.Val.{bool_byte}
use Prim.Native.Nat.{ℕ}
use Rattle.page_calls.proofs.part_says.Goals as goal

-- whether it goes on, as a number
number : (more : Bool) → bool_byte more ≡ cond more 1 0
number true = refl
number false = refl

pub returns : goal.returns
returns c = ap (λ (n : ℕ). c.args.part.laid ∷ n ∷ []) (c.from.ensures ∙ number c.args.part.more)

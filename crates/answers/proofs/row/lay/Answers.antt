-- `row::lay` meets its contract: one half of the row after the other.
use mathlib.Core.Path.{sym, ap₂}
use mathlib.Core.List.{[], ◌∷◌}
use Prim.Native.Nat.{ℕ}
use native.Mathlib.Omega.{arith}
use Rattle.digits.proofs.Laying.{laid_as}
use Rattle.answers.specs.Reply.{kind_number}
use Rattle.answers.proofs.row.lay.Goals as goal

pub returns : goal.returns
returns c =
    let r = c.args.reply in
    let numbers = ap₂ (λ (n p : ℕ). kind_number r.kind ∷ n ∷ p ∷ r.class ∷ r.length ∷ r.tag ∷ r.bytes ∷ r.rounds ∷ [])
    (sym c.number-number.ensures) (sym c.place-place.ensures) in
    let first = rw c.number-kind.ensures at c.put_four-next.ensures in
    laid_as _ _ _ _ _ _ _ _ _ numbers (omega arith) first c.put_four.ensures

-- `lines::put_last_four` meets its contract: the first number, then the others.
use mathlib.Core.List.{[], ◌∷◌}
use native.Mathlib.Omega.{arith}
use Rattle.lines.specs.Laid.{end_of}
use Rattle.lines.proofs.Laying.{laid_end}
use Rattle.lines.proofs.put_last_four.Goals as goal

pub returns : goal.returns
unfolding end_of
returns c =
    let a = c.args in
    let whole =
    laid_end _ _ (a.b ∷ a.c ∷ a.d ∷ []) _ _ _ _ _ (omega (arith, c.put_number-next.ensures.laid_at.0))
    c.put_number-next.ensures.laid_at c.put_last_three.ensures.laid_at in record { laid_at = whole; upper_bound = omega (arith, c.put_last_three.ensures.upper_bound, c.put_number-next.ensures.upper_bound) }

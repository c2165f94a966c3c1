-- `reopening::keep_sums` meets its contract.
use mathlib.Core.Path.{◌≡◌, sym, ap, subst, ◌∙◌}
use Prim.Native.Nat.{ℕ}
use Rattle.sets.specs.Set.{has}
use Rattle.shape.specs.Shape.{tree_in}
use Rattle.active.specs.Known.{Summed}
use Rattle.steps.proofs.reopening.keep_sums.Goals as goal

pub refresh-requires : goal.refresh-requires
refresh-requires c = (c.requires.0, c.requires.1.wide)

pub returns-then-active-known : goal.returns-then-active-known
returns-then-active-known c = c.refresh.ensures

pub returns-else-active-known : goal.returns-else-active-known
returns-else-active-known c =
    let a = c.args in
    let same : a.active ≡ a.known = c.if-active-known.false in
    let on = sym (ap (λ (x : ℕ). has x 0) same) ∙ c.requires.2 in
    subst (λ (x : ℕ). Summed (tree_in a.shape.now) x a.kept.now) (sym same) (c.requires.1.sums on)

-- `promised::leaf_waits` meets its contract.
use mathlib.Core.Path.{ap, subst, ◌∙◌}
use Prim.Native.Nat.{ℕ, ◌*◌}
use Rattle.units.specs.Cost.{cost_of}
use Rattle.promised.specs.Promise.{Promises}
use Rattle.promised.proofs.leaf_waits.Goals as goal

pub returns : goal.returns
returns c =
    let a = c.args in
    let cost = ap cost_of c.longest-length.ensures in
    record {
      alone =
          subst (λ (d : ℕ). Promises a.tree a.class d c.longest_wait-alone.result) (c.cost.ensures ∙ cost)
          c.longest_wait-alone.ensures;
      full =
          subst (λ (d : ℕ). Promises a.tree a.class d c.longest_wait-full.result) (c.full_of.ensures ∙ ap (λ (n : ℕ). 32 * n) cost)
          c.longest_wait-full.ensures;
    }

-- `totals::count` meets its contract.
use mathlib.Core.Bool.{Bool, true, false}
use mathlib.Core.List.{List}
use mathlib.Core.Path.{◌≡◌, refl, ap, ◌∙◌}
use Prim.Native.Nat.{ℕ, ◌+◌, ◌≤◌}
use native.Mathlib.Omega.{arith}
use lib.ListN.{length, get_or}
use Rattle.units.specs.Cost.{cost_of}
use Rattle.tree.specs.declared.Tree.{Tree}
use Rattle.tree.specs.Class.{is_leaf}
use Rattle.tree.specs.Below.{changed_up}
use Rattle.tree.specs.Rules.{PlanRules}
use Rattle.state.specs.WayUp.{changed}
use Rattle.totals.specs.WorkedOut.{worked_out, changed_ends, CountsAt}
use Rattle.totals.proofs.WorkingOut.{ends_work_out}
use borrow.Author.Rules.{rules}
use Rattle.totals.proofs.count.Goals as goal

-- a number that is changed so is, with the one it was, what another and its own change are
steps_with : (fewer : Bool) (by x a b : ℕ) → (fewer ≡ true → by ≤ x) → b + x ≡ a + changed fewer by x → changed fewer by a ≡ b
steps_with true by x a b enough e = omega (arith, enough refl, e)
steps_with false by x a b enough e = omega (arith, e)

-- one table
counted : (fewer : Bool) (by class : ℕ) (before after : List ℕ) → length before ≡ 64 → CountsAt fewer by class before
    → after ≡ changed_ends (changed fewer by) class before → (t : Tree) → PlanRules t → is_leaf t class ≡ true
    → worked_out t after ≡ changed_up t (changed fewer by) class (worked_out t before)
counted fewer by class before after long counts e t rules leaf =
    ap (worked_out t) e
    ∙ ends_work_out t rules (changed fewer by) class leaf before long
    (λ a b. steps_with fewer by (get_or before class 0) a b counts.less)

pub count_in-requires-2 : goal.count_in-requires-2
unfolding cost_of
count_in-requires-2 c =
    (c.requires.0, c.requires.1, omega (arith, c.cost-cost.ensures), rw c.cost-cost.ensures c.requires.3)

pub returns : goal.returns
returns c =
    let a = c.args in (
      λ t charged rules leaf.
          let packets =
          counted a.fewer 1 a.class a.packets.now _ c.count_in.ensures.0 c.requires.2 c.count_in.ensures.1 t rules leaf
          in
          let bytes =
          counted a.fewer (cost_of a.length) a.class a.bytes.now _ c.count_in-2.ensures.0 c.requires.3
          (c.count_in-2.ensures.1 ∙ ap (λ (n : ℕ). changed_ends (changed a.fewer n) a.class a.bytes.now) c.cost-cost.ensures) t
          rules leaf
          in
          λ n. record { packets = packets n; bytes = bytes n; charged = charged },
      c.count_in.ensures.2,
      c.count_in-2.ensures.2,
    )

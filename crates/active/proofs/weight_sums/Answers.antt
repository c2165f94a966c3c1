-- `active::weight_sums` meets its contract: class by class downward, each adds itself to its parent's sum.
use mathlib.Core.Bool.{Bool, cond}
use mathlib.Core.List.{List}
use mathlib.Core.Path.{◌≡◌, ap, ap₂, ◌∙◌}
use Prim.Native.Nat.{ℕ, ◌+◌, ◌<◌}
use native.Mathlib.Omega.{arith}
use lib.ListN.{get_or, set}
use Rattle.sets.specs.Set.{has}
use Rattle.units.specs.declared.Weight.{Weight}
use Rattle.tree.specs.declared.Tree.{Tree}
use Rattle.tree.specs.Class.{no_weight, parent_of, weight_of}
use Rattle.tree.proofs.Rules.{few_classes, rules_light}
use Rattle.tree.specs.Sum.{table}
use Rattle.tree.proofs.Rules.{parent_below}
use Rattle.shape.specs.Shape.{tree_in}
use Rattle.rules.proofs.Sums.{sum_above, sums_none, sums_all, sums_step, sums_fit}
use Rattle.active.proofs.weight_sums.Goals as goal
use Rattle.active.proofs.weight_sums.Goals.{In-loop-i, Start}

-- the tree
abbrev treeAt : Start → Tree
treeAt st = tree_in st.args.shape.now

-- the class at hand and its parent are class numbers
here : (c : In-loop-i)
    → (c.loop-i.i < 64) × (parent_of (treeAt (goal.at.In-loop-i c).Start) c.loop-i.i < 64)
here c =
    let u : c.loop-i.i < 64 = omega (arith, few_classes (treeAt (goal.at.In-loop-i c).Start) c.requires, c.loop-i.invariant.0) in
    (u, omega (arith, parent_below (treeAt (goal.at.In-loop-i c).Start) c.loop-i.i c.requires (omega (arith, c.loop-i-test.true)) u))

pub loop-i-init : goal.loop-i-init
loop-i-init c =
    (omega (arith, c.count-i.ensures), rw c.count-i.ensures (sums_none (treeAt (goal.at.loop-i-init c).Start) c.args.active))

pub parent-p-requires : goal.parent-p-requires
parent-p-requires c = omega (arith, here c)

pub weight-w-requires : goal.weight-w-requires
weight-w-requires c = (c.requires, omega (arith, here (goal.at.weight-w-requires c).In-loop-i))

pub offset_bounds-sums-p : goal.offset_bounds-sums-p
offset_bounds-sums-p c = omega (arith, here (goal.at.offset_bounds-sums-p c).In-loop-i, c.parent-p.ensures)

pub bounds-sums-p : goal.bounds-sums-p
bounds-sums-p c = omega (arith, here (goal.at.bounds-sums-p c).In-loop-i, c.parent-p.ensures)

pub has-on-requires : goal.has-on-requires
has-on-requires c = omega (arith, here (goal.at.has-on-requires c).In-loop-i)

pub with_active-requires : goal.with_active-requires
with_active-requires c =
    let t = treeAt (goal.at.with_active-requires c).Start in
    let fits = sums_fit t c.args.active c.loop-i.i (omega (arith, c.loop-i-test.true)) c.loop-i.invariant.0 (here (goal.at.with_active-requires c).In-loop-i).1 in
    rw (c.parent-p.ensures, c.weight-w.ensures, c.loop-i.invariant.1) (fits (rules_light t c.requires))

pub offset_bounds-sums-p-in-loop-i : goal.offset_bounds-sums-p-in-loop-i
offset_bounds-sums-p-in-loop-i c = omega (arith, here (goal.at.offset_bounds-sums-p-in-loop-i c).In-loop-i, c.parent-p.ensures)

pub bounds-sums-p-in-loop-i : goal.bounds-sums-p-in-loop-i
bounds-sums-p-in-loop-i c = omega (arith, here (goal.at.bounds-sums-p-in-loop-i c).In-loop-i, c.parent-p.ensures)

pub loop-i-preserved : goal.loop-i-preserved
loop-i-preserved c =
    let t = treeAt (goal.at.loop-i-preserved c).Start in
    let active = c.args.active in
    let i = c.loop-i.i in
    let p = parent_of t i in
    let now : c.with_active.result.0 ≡ (get_or (table (sum_above t active i) 64) p no_weight).0 + cond (has active i) (weight_of t i) 0 =
    c.with_active.ensures
    ∙ ap (λ (on : Bool). (get_or c.loop-i.sums c.parent-p.result no_weight).0 + cond on c.weight-w.result.0 0) c.has-on.ensures
    ∙ ap₂ (λ (k n : ℕ). (get_or c.loop-i.sums k no_weight).0 + cond (has active i) n 0) c.parent-p.ensures c.weight-w.ensures
    ∙ ap (λ (xs : List Weight). (get_or xs p no_weight).0 + cond (has active i) (weight_of t i) 0) c.loop-i.invariant.1
    in (
      omega arith,
      ap₂ (λ (xs : List Weight) (k : ℕ). set xs k c.with_active.result) c.loop-i.invariant.1 c.parent-p.ensures
          ∙ sums_step t active i (omega (arith, c.loop-i-test.true)) c.loop-i.invariant.0 (here (goal.at.loop-i-preserved c).In-loop-i).1 c.with_active.result now,
    )

pub returns : goal.returns
returns c =
    let active = c.args.active in
    let e : c.loop-i.i ≡ 0 = omega arith in
    c.loop-i.invariant.1 ∙ ap (λ (k : ℕ). table (sum_above (treeAt (goal.at.returns c).Start) active k) 64) e ∙ sums_all (treeAt (goal.at.returns c).Start) active

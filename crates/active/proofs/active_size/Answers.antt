-- `active::active_size` meets its contract: class by class upward, each active one adds its weight, and a leaf what its longest packet
-- costs.
use mathlib.Core.Bool.{Bool, cond}
use mathlib.Core.Path.{◌≡◌, refl, ap, ap₂, ◌∙◌}
use Prim.Native.Nat.{ℕ, ◌+◌, ◌-◌, ◌≤◌, ◌<◌}
use native.Mathlib.Omega.{arith}
use Rattle.sets.specs.Set.{has}
use Rattle.units.specs.declared.Bytes.{Bytes}
use Rattle.units.specs.declared.Weight.{Weight}
use Rattle.units.specs.Cost.{cost_of}
use Rattle.tree.specs.declared.Tree.{Tree}
use Rattle.tree.specs.Class.{weight_of, longest_of}
use Rattle.tree.specs.Size.{longest_cost}
use Rattle.tree.proofs.Classes.{class_in_lem}
use Rattle.tree.proofs.Rules.{few_classes, rules_light}
use Rattle.tree.proofs.Sums.{sum_none}
use Rattle.shape.specs.Shape.{tree_in}
use Rattle.rules.specs.Sizes.{if_active, active_weights, active_longest, active_size}
use Rattle.active.proofs.active_size.Invariants.{weighs, costs, weighs_more, costs_more, weighs_most, costs_most}
use Rattle.active.proofs.active_size.Goals as goal
use Rattle.active.proofs.active_size.Goals.{After-active_longest, In-loop-i, Left-loop-i, Start, else-loop-i-test, then-loop-i-test+else-i-i-end}

-- all of them add up to rule 2's size
size_is : (t : Tree) (active : ℕ) → weighs t active t.count + costs t active t.count ≡ active_size t active
unfolding active_size active_weights active_longest
size_is t active = refl

-- the tree
abbrev treeAt : Start → Tree
treeAt st = tree_in st.args.shape.now

-- the class at hand is a class of the tree, and a class number
at_hand : (c : In-loop-i) → c.loop-i.i ≤ (treeAt (goal.at.In-loop-i c).Start).count
at_hand c = omega (arith, c.loop-i-test.true, c.count-i-end.ensures)

here : (c : In-loop-i) → c.loop-i.i < 64
here c = omega (arith, few_classes (treeAt (goal.at.In-loop-i c).Start) c.requires, at_hand c)

pub loop-i-init : goal.loop-i-init
loop-i-init c = (
  omega arith,
  omega arith,
  omega (arith, sum_none (if_active c.args.active (weight_of (treeAt (goal.at.loop-i-init c).Start)))),
  omega (arith, sum_none (if_active c.args.active (longest_cost (treeAt (goal.at.loop-i-init c).Start)))),
)

pub weight-w-requires : goal.weight-w-requires
weight-w-requires c = (c.requires, here c)

pub has-counts-requires : goal.has-counts-requires
has-counts-requires c = here (goal.at.has-counts-requires c).In-loop-i

pub with_active-weights-requires : goal.with_active-weights-requires
with_active-weights-requires c =
    let t = treeAt (goal.at.with_active-weights-requires c).Start in
    let most = weighs_most t c.args.active c.requires (c.loop-i.i - 1) (omega (arith, at_hand (goal.at.with_active-weights-requires c).In-loop-i)) in
    let light = (rules_light t c.requires).light c.loop-i.i (class_in_lem t c.loop-i.i c.loop-i.invariant.0 (at_hand (goal.at.with_active-weights-requires c).In-loop-i)) in
    omega (arith, most, light, c.loop-i.invariant.2, c.weight-w.ensures)

pub has-requires : goal.has-requires
has-requires c = here (goal.at.has-requires c).In-loop-i

pub longest-requires : goal.longest-requires
longest-requires c = (c.requires, here (goal.at.longest-requires c).In-loop-i)

-- what it adds for its longest packet
longest_by : (t : Tree) (active i leaves longest cost : ℕ) (on leaf : Bool) → on ≡ has active i → leaf ≡ has leaves i → leaves ≡ t.leaves
    → longest ≡ longest_of t i → cost ≡ cond on (cond leaf (cost_of longest) 0) 0
    → cost ≡ cond (has active i) (cond (has t.leaves i) (cost_of (longest_of t i)) 0) 0
longest_by t active i leaves longest cost on leaf e f l m z =
    z ∙ ap₂ (λ (x y : Bool). cond x (cond y (cost_of longest) 0) 0) e f
    ∙ ap₂ (λ (s n : ℕ). cond (has active i) (cond (has s i) (cost_of n) 0) 0) l m

longest_is : (c : After-active_longest)
    → c.active_longest.result.0
    ≡ cond (has c.args.active c.loop-i.i)
    (cond (has (treeAt (goal.at.After-active_longest c).Start).leaves c.loop-i.i) (cost_of (longest_of (treeAt (goal.at.After-active_longest c).Start) c.loop-i.i)) 0) 0
longest_is c =
    longest_by (treeAt (goal.at.After-active_longest c).Start) c.args.active c.loop-i.i _ _ _ _ _ c.has-counts.ensures c.has.ensures
    c.leaves-leaves.ensures c.longest.ensures c.active_longest.ensures

pub plus-packets-requires : goal.plus-packets-requires
plus-packets-requires c =
    let most = costs_most (treeAt (goal.at.plus-packets-requires c).Start) c.args.active c.requires (c.loop-i.i + 1 - 1) (omega (arith, at_hand (goal.at.plus-packets-requires c).In-loop-i)) in
    omega (arith, most, costs_more (treeAt (goal.at.plus-packets-requires c).Start) c.args.active c.loop-i.i c.loop-i.invariant.0, longest_is c, c.loop-i.invariant.3)

pub loop-i-preserved : goal.loop-i-preserved
loop-i-preserved c =
    let t = treeAt (goal.at.loop-i-preserved c).Start in
    let active = c.args.active in
    let i = c.loop-i.i in
    let weight =
    c.with_active-weights.ensures
    ∙ ap₂ (λ (on : Bool) (n : ℕ). c.loop-i.weights.0 + cond on n 0) c.has-counts.ensures c.weight-w.ensures
    in (
      omega arith,
      omega (arith, at_hand (goal.at.loop-i-preserved c).In-loop-i),
      omega (arith, weight, c.loop-i.invariant.2, weighs_more t active i c.loop-i.invariant.0),
      omega (arith, c.plus-packets.ensures, longest_is (goal.at.loop-i-preserved c).After-active_longest, c.loop-i.invariant.3, costs_more t active i c.loop-i.invariant.0),
    )

-- after the last class's turn each has added what it adds
all : (c : Left-loop-i)
    → (c.loop-i-test.weights.0 ≡ weighs (treeAt (goal.at.Left-loop-i c).Start) c.args.active (treeAt (goal.at.Left-loop-i c).Start).count)
    × (c.loop-i-test.packets.0 ≡ costs (treeAt (goal.at.Left-loop-i c).Start) c.args.active (treeAt (goal.at.Left-loop-i c).Start).count)
all c =
    let t = treeAt (goal.at.Left-loop-i c).Start in
    let active = c.args.active in
    let i = c.loop-i.i in
    let on = c.loop-i.invariant in
    elim c.loop-i-test.branch [
      | else-loop-i-test w ↦
          let e : i - 1 ≡ t.count = omega (arith, on.1, w.loop-i-test.false, c.count-i-end.ensures) in (
            ap (λ (x : Weight). x.0) w.weights-is ∙ on.2 ∙ ap (weighs t active) e,
            ap (λ (x : Bytes). x.0) w.packets-is ∙ on.3 ∙ ap (costs t active) e,
          )
      | then-loop-i-test+else-i-i-end w ↦
          let e : i + 1 - 1 ≡ t.count = omega (arith, w.loop-i-test.true, c.count-i-end.ensures) in
          let weight =
          w.with_active-weights.ensures
          ∙ ap₂ (λ (on : Bool) (n : ℕ). c.loop-i.weights.0 + cond on n 0) w.has-counts.ensures w.weight-w.ensures
          in
          let longest =
          longest_by t active i _ _ _ _ _ w.has-counts.ensures w.has.ensures c.leaves-leaves.ensures w.longest.ensures w.active_longest.ensures
          in
          let more : w.with_active-weights.result.0 ≡ weighs t active (i + 1 - 1) = omega (arith, weight, on.2, weighs_more t active i on.0) in
          let most : w.plus-packets.result.0 ≡ costs t active (i + 1 - 1) =
          omega (arith, w.plus-packets.ensures, longest, on.3, costs_more t active i on.0)
          in (
            ap (λ (x : Weight). x.0) w.weights-is ∙ more ∙ ap (weighs t active) e,
            ap (λ (x : Bytes). x.0) w.packets-is ∙ most ∙ ap (costs t active) e,
          )
    ]

pub size-requires : goal.size-requires
size-requires c =
    let t = treeAt (goal.at.size-requires c).Start in
    let active = c.args.active in
    omega (
      arith,
      weighs_most t active c.requires t.count (omega arith),
      costs_most t active c.requires t.count (omega arith),
      all (goal.at.size-requires c).Left-loop-i,
    )

pub returns : goal.returns
returns c =
    let t = treeAt (goal.at.returns c).Start in
    let active = c.args.active in
    let all = all (goal.at.returns c).Left-loop-i in
    c.size.ensures ∙ ap₂ ◌+◌ all.0 all.1 ∙ size_is t active

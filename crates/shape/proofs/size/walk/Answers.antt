-- `size::walk` meets its contract: class by class downward, each is judged by what the classes after it have added, and adds itself.
use mathlib.Core.List.{List}
use mathlib.Core.Path.{◌≡◌, refl, sym, ◌∙◌}
use Prim.Native.Nat.{ℕ, ◌+◌, ◌^◌, ◌≤◌, ◌<◌}
use native.Mathlib.Omega.{arith}
use lib.ListN.{get_or}
use Rattle.std.specs.Prelude.{Some}
use Rattle.checks.proofs.Laws.{exactly_yes, exactly_no, not_true_and_false}
use Rattle.units.specs.Cost.{most_cost}
use Rattle.tree.specs.Class.{parent_of, weight_of, of_child}
use Rattle.tree.specs.Size.{all_weights, all_longest, longest_cost}
use Rattle.shape.specs.Steps.{Numbers, ClassObeys, children_after}
use Rattle.tree.proofs.Classes.{class_in_lem, class_range, child_light, child_own, child_other}
use Rattle.tree.proofs.Rules.{lower_parent, weight_range, longest_cost_bound}
use Rattle.tree.proofs.Sums.{sum_none, sum_rest, sum_above_lem}
use Rattle.tree.proofs.Down.{added_start, added_more, after_more}
use Rattle.shape.specs.Shape.{tree_in}
use Rattle.shape.proofs.Read.{parent_in, weight_in_lem, longest_in}
use Rattle.shape.proofs.Kin.{after_none, after_on, after_all}
use borrow.Author.Rules.{rules}
use Rattle.shape.proofs.size.walk.Invariants.{number}
use Rattle.shape.proofs.size.walk.Goals as goal
use Rattle.shape.proofs.size.walk.Goals.{After-class_right, After-leaves-leaves, In_ok-cost, In-loop-i}

pub loop-i-init : goal.loop-i-init
loop-i-init c =
    let t = tree_in c.args.shape.now in
    let e : c.count-i.result ≡ t.count = c.count-i.ensures in (
      omega (arith, e),
      rw e (added_start 0 number t.count 64 (of_child t (weight_of t)) refl),
      rw e (omega arith),
      rw e (omega arith),
      λ k l u. absurd (omega (arith, l, u, e)),
      rw e (after_none t),
    )

-- the set of leaves is a 64-bit number
word : (c : After-leaves-leaves) → (tree_in c.args.shape.now).leaves < 2 ^ 64
word c = let fits : c.leaves-leaves.result < 2 ^ 64 = search rules in omega (arith, c.leaves-leaves.ensures, fits)

-- class i is one of the 64 numbers
within : (c : In-loop-i) → c.loop-i.i < 64
within c = omega (arith, c.loop-i.invariant.0, c.requires)

pub offset_bounds-shape-i : goal.offset_bounds-shape-i
offset_bounds-shape-i c = omega (arith, within c)

pub bounds-shape-i : goal.bounds-shape-i
bounds-shape-i c = omega (arith, within (goal.at.bounds-shape-i c).In-loop-i)

pub parent-p-requires : goal.parent-p-requires
parent-p-requires c = within (goal.at.parent-p-requires c).In-loop-i

pub offset_bounds-shape-i-in-loop-i : goal.offset_bounds-shape-i-in-loop-i
offset_bounds-shape-i-in-loop-i c = omega (arith, within (goal.at.offset_bounds-shape-i-in-loop-i c).In-loop-i)

pub bounds-shape-i-in-loop-i : goal.bounds-shape-i-in-loop-i
bounds-shape-i-in-loop-i c = omega (arith, within (goal.at.bounds-shape-i-in-loop-i c).In-loop-i)

pub offset_bounds-shape-i-in-loop-i-2 : goal.offset_bounds-shape-i-in-loop-i-2
offset_bounds-shape-i-in-loop-i-2 c = omega (arith, within (goal.at.offset_bounds-shape-i-in-loop-i-2 c).In-loop-i)

pub bounds-shape-i-in-loop-i-2 : goal.bounds-shape-i-in-loop-i-2
bounds-shape-i-in-loop-i-2 c = omega (arith, within (goal.at.bounds-shape-i-in-loop-i-2 c).In-loop-i)

pub offset_bounds-sums-i : goal.offset_bounds-sums-i
offset_bounds-sums-i c = omega (arith, within (goal.at.offset_bounds-sums-i c).In-loop-i)

pub bounds-sums-i : goal.bounds-sums-i
bounds-sums-i c = within (goal.at.bounds-sums-i c).In-loop-i

-- what was asked of the class at hand
asked : (s : List ℕ) (i leaves : ℕ) → i < 64 → leaves ≡ (tree_in s).leaves
    → Numbers (tree_in s) i leaves (get_or s i 0) (get_or s (64 + i) 0) (get_or s (128 + i) 0)
asked s i leaves u e = record {
  leaves_are = sym e;
  parent_is = parent_in s i u;
  weight_is = weight_in_lem s i u;
  longest_is = longest_in s i u;
}

pub returns-in_err-cost : goal.returns-in_err-cost
returns-in_err-cost c =
    let t = tree_in c.args.shape.now in
    let i = c.loop-i.i in
    let u = within (goal.at.returns-in_err-cost c).In-loop-i in
    let told = rw (c.loop-i.invariant.1.at i u) at (c.in_err-cost.ensures t (asked c.args.shape.now i _ u c.leaves-leaves.ensures)).0 in
    let is = class_in_lem t i (omega (arith, c.loop-i-test.true)) c.loop-i.invariant.0 in
    rw c.from_residual.ensures (
      exactly_no (λ p. not_true_and_false (told.complete (p.at i is)) refl),
      tt,
      word (goal.at.returns-in_err-cost c).After-leaves-leaves,
    )

-- a class whose cost was given is right, and that is its longest packet's
said : (c : After-class_right) (k : ℕ) → c.class_right.result ≡ Some k
    → ClassObeys (tree_in c.args.shape.now) c.loop-i.i (children_after (tree_in c.args.shape.now) c.loop-i.i)
    × (k ≡ longest_cost (tree_in c.args.shape.now) c.loop-i.i)
said c k e =
    let i = c.loop-i.i in
    let u = within (goal.at.After-class_right c).In-loop-i in
    let told = rw e at (c.class_right.ensures _ (asked c.args.shape.now i _ u c.leaves-leaves.ensures)) in
    ((rw (c.loop-i.invariant.1.at i u) at told.0).sound refl, told.1)

own : (c : In_ok-cost) → ClassObeys (tree_in c.args.shape.now) c.loop-i.i (children_after (tree_in c.args.shape.now) c.loop-i.i)
own c = (said (goal.at.In_ok-cost c).After-class_right _ c.in_ok-cost.was).0

cost : (c : In_ok-cost) → c.in_ok-cost.cost ≡ longest_cost (tree_in c.args.shape.now) c.loop-i.i
cost c = (said (goal.at.In_ok-cost c).After-class_right _ c.in_ok-cost.was).1

-- its parent as it was read is one of the 64 numbers
up : (c : After-class_right) (k : ℕ) → c.class_right.result ≡ Some k → c.parent-p.result < 64
up c k e =
    let lower = lower_parent (tree_in c.args.shape.now) c.loop-i.i (said c k e).0.parent in
    omega (arith, c.parent-p.ensures, lower, within (goal.at.After-class_right c).In-loop-i)

abbrev parent_read : (c : In_ok-cost) → ℕ
parent_read c = c.parent-p.result

among : (c : In_ok-cost) → parent_read c < 64
among c = up (goal.at.In_ok-cost c).After-class_right _ c.in_ok-cost.was

pub offset_bounds-sums-p : goal.offset_bounds-sums-p
offset_bounds-sums-p c = omega (arith, up (goal.at.offset_bounds-sums-p c).After-class_right _ c.in_ok-cost.was)

pub bounds-sums-p : goal.bounds-sums-p
bounds-sums-p c = up (goal.at.bounds-sums-p c).After-class_right _ c.in_ok-cost.was

pub overflow_add-sums : goal.overflow_add-sums
overflow_add-sums c =
    let t = tree_in c.args.shape.now in
    let i = c.loop-i.i in
    let p = parent_read c in
    omega (
      arith,
      c.requires,
      weight_in_lem c.args.shape.now i (within (goal.at.overflow_add-sums c).In-loop-i),
      (weight_range t i (own c).weight).1,
      c.loop-i.invariant.1.at p (among c),
      sum_rest (of_child t (weight_of t) p) 1_000_000 t.count i c.loop-i.invariant.0
          (λ k l u. child_light t (weight_of t) p k 1_000_000 (weight_range t k (c.loop-i.invariant.4 k l u).weight).1),
    )

pub bounds-sums-p-in-loop-i : goal.bounds-sums-p-in-loop-i
bounds-sums-p-in-loop-i c = among c

pub offset_bounds-children-p : goal.offset_bounds-children-p
offset_bounds-children-p c = omega (arith, among c, within (goal.at.offset_bounds-children-p c).In-loop-i)

pub bounds-children-p : goal.bounds-children-p
bounds-children-p c = omega (arith, among (goal.at.bounds-children-p c).In_ok-cost, within (goal.at.bounds-children-p c).In-loop-i)

pub with-requires : goal.with-requires
with-requires c = omega (arith, among (goal.at.with-requires c).In_ok-cost, within (goal.at.with-requires c).In-loop-i)

pub offset_bounds-children-p-in-loop-i : goal.offset_bounds-children-p-in-loop-i
offset_bounds-children-p-in-loop-i c = omega (arith, among (goal.at.offset_bounds-children-p-in-loop-i c).In_ok-cost)

pub bounds-children-p-in-loop-i : goal.bounds-children-p-in-loop-i
bounds-children-p-in-loop-i c = among (goal.at.bounds-children-p-in-loop-i c).In_ok-cost

pub overflow_add-weights : goal.overflow_add-weights
overflow_add-weights c =
    let t = tree_in c.args.shape.now in
    let i = c.loop-i.i in
    omega (
      arith,
      c.requires,
      weight_in_lem c.args.shape.now i (within (goal.at.overflow_add-weights c).In-loop-i),
      (weight_range t i (own (goal.at.overflow_add-weights c).In_ok-cost).weight).1,
      c.loop-i.invariant.2,
      sum_rest (weight_of t) 1_000_000 t.count i c.loop-i.invariant.0 (λ k l u. (weight_range t k (c.loop-i.invariant.4 k l u).weight).1),
    )

pub overflow_add-packets : goal.overflow_add-packets
overflow_add-packets c =
    let t = tree_in c.args.shape.now in
    let i = c.loop-i.i in
    omega (
      arith,
      c.requires,
      cost (goal.at.overflow_add-packets c).In_ok-cost,
      longest_cost_bound t i (own (goal.at.overflow_add-packets c).In_ok-cost).longest,
      c.loop-i.invariant.3,
      sum_rest (longest_cost t) most_cost t.count i c.loop-i.invariant.0 (λ k l u. longest_cost_bound t k (c.loop-i.invariant.4 k l u).longest),
    )

pub loop-i-preserved : goal.loop-i-preserved
loop-i-preserved c =
    let t = tree_in c.args.shape.now in
    let i = c.loop-i.i in
    let p = parent_read (goal.at.loop-i-preserved c).In_ok-cost in
    let low : 1 ≤ i = omega (arith, c.loop-i-test.true) in
    let u = c.loop-i.invariant.0 in
    let z : parent_of t i ≡ p = sym c.parent-p.ensures in
    let w = weight_in_lem c.args.shape.now i (within (goal.at.loop-i-preserved c).In-loop-i) in (
      omega (arith, u),
      added_more 0 number t.count 64 (of_child t (weight_of t)) c.loop-i.sums i p (weight_of t i) _ c.loop-i.invariant.1 low u
          (among (goal.at.loop-i-preserved c).In_ok-cost) (rw z at (child_own t (weight_of t) i)) (λ k ne. child_other t (weight_of t) i k (λ y. ne (sym z ∙ y)))
          (omega (arith, w)),
      omega (arith, w, c.loop-i.invariant.2, sum_above_lem (weight_of t) t.count i low u),
      omega (arith, cost (goal.at.loop-i-preserved c).In_ok-cost, c.loop-i.invariant.3, sum_above_lem (longest_cost t) t.count i low u),
      after_more (λ (k : ℕ). ClassObeys t k (children_after t k)) t.count i c.loop-i.invariant.4 (own (goal.at.loop-i-preserved c).In_ok-cost),
      after_on t i c.loop-i.children c.loop-i.invariant.5 low u (within (goal.at.loop-i-preserved c).In-loop-i) p (sym z) (among (goal.at.loop-i-preserved c).In_ok-cost) _ c.with.ensures,
    )

pub returns : goal.returns
unfolding all_weights all_longest
returns c =
    let t = tree_in c.args.shape.now in
    let e : c.loop-i.i ≡ 0 = omega (arith, c.loop-i-test.false) in
    let w = rw e at c.loop-i.invariant.2 in
    let l = rw e at c.loop-i.invariant.3 in (
      exactly_yes (record { at = λ k is. c.loop-i.invariant.4 k (omega (arith, (class_range t k is).0, e)) (class_range t k is).1 }),
      (
        omega (arith, w, sum_none (weight_of t)),
        omega (arith, l, sum_none (longest_cost t)),
        after_all t c.loop-i.i c.loop-i.children e c.loop-i.invariant.5,
      ),
      word (goal.at.returns c).After-leaves-leaves,
    )

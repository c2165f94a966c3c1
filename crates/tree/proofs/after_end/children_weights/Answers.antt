-- `after_end::children_weights` meets its contract: class by class downward, each adds itself to its parent's sum.
use mathlib.Core.Path.{◌≡◌, sym, ◌∙◌}
use Prim.Native.Nat.{◌+◌, ◌^◌, ◌<◌}
use native.Mathlib.Omega.{arith}
use lib.ListN.{get_or}
use Rattle.tree.specs.Class.{no_weight, parent_of, weight_of, of_child, children_sum, children_weight}
use Rattle.tree.proofs.Classes.{class_in_lem, child_light, child_own, child_other}
use Rattle.tree.proofs.Sums.{sum_bound}
use Rattle.tree.proofs.Down.{sums_start, sums_more, sums_end}
use Rattle.tree.proofs.after_end.children_weights.Goals as goal

pub loop-i-init : goal.loop-i-init
loop-i-init c = (omega arith, sums_start c.args.tree.count 256 (of_child c.args.tree (weight_of c.args.tree)))

pub bounds-tree-i : goal.bounds-tree-i
bounds-tree-i c = omega (arith, c.requires.few)

pub offset_bounds-tree-i : goal.offset_bounds-tree-i
offset_bounds-tree-i c = omega (arith, c.requires.few)

pub bounds-tree-i-in-loop-i : goal.bounds-tree-i-in-loop-i
bounds-tree-i-in-loop-i c = omega (arith, c.requires.few)

pub offset_bounds-sums-p : goal.offset_bounds-sums-p
offset_bounds-sums-p c = omega (arith, c.from-p.ensures)

pub bounds-sums-p : goal.bounds-sums-p
bounds-sums-p c = omega (arith, c.from-p.ensures)

pub plus-requires : goal.plus-requires
plus-requires c =
    let t = c.args.tree in
    let i = c.loop-i.i in
    let p = c.from-p.result in
    let below : p < 256 = omega arith in
    let fits : (get_or c.loop-i.sums p no_weight).0 + weight_of t i < 2 ^ 32 =
    omega (
      arith,
      c.requires.few,
      c.requires.light i (class_in_lem t i (omega (arith, c.loop-i-test.true)) c.loop-i.invariant.0),
      c.loop-i.invariant.1.at p below,
      sum_bound (of_child t (weight_of t) p) 1_000_000 t.count (λ k a b. child_light t (weight_of t) p k 1_000_000
          (c.requires.light k (class_in_lem t k a b))),
    )
    in
    fits

pub offset_bounds-sums-p-in-loop-i : goal.offset_bounds-sums-p-in-loop-i
offset_bounds-sums-p-in-loop-i c = omega (arith, c.from-p.ensures)

pub bounds-sums-p-in-loop-i : goal.bounds-sums-p-in-loop-i
bounds-sums-p-in-loop-i c = omega (arith, c.from-p.ensures)

pub loop-i-preserved : goal.loop-i-preserved
loop-i-preserved c =
    let t = c.args.tree in
    let i = c.loop-i.i in
    let p = c.from-p.result in
    let below : p < 256 = omega arith in
    let e : parent_of t i ≡ p = sym c.from-p.ensures in (
      omega arith,
      sums_more t.count 256 (of_child t (weight_of t)) c.loop-i.sums i p (weight_of t i) c.plus.result c.loop-i.invariant.1
          (omega (arith, c.loop-i-test.true)) c.loop-i.invariant.0
          below (rw e at (child_own t (weight_of t) i)) (λ k ne. child_other t (weight_of t) i k (λ z. ne (sym e ∙ z)))
          c.plus.ensures,
    )

pub returns : goal.returns
unfolding children_weight children_sum
returns c = λ p u.
    let t = c.args.tree in
    let e : c.loop-i.i ≡ 0 = omega arith in
    sums_end t.count 256 (of_child t (weight_of t)) c.loop-i.sums p (rw e at c.loop-i.invariant.1) u

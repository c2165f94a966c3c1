-- `back::tree_of` meets its contract.
use mathlib.Core.List.{append-nil}
use mathlib.Core.Path.{◌≡◌, refl, ◌∙◌}
use native.Mathlib.Omega.{arith}
use Rattle.tree.specs.Class.{no_weight}
use Rattle.tree.specs.Sum.{table}
use Rattle.tree.proofs.Tables.{table_none, table_fill}
use Rattle.shape.proofs.Read.{parent_in, weight_in_lem, longest_in, parent_fits, weight_fits, longest_fits, tree_back}
use Rattle.shape.proofs.back.tree_of.Invariants.{parent_at, weight_at, longest_at}
use Rattle.shape.proofs.back.tree_of.Goals as goal

pub loop-i-init : goal.loop-i-init
loop-i-init c =
    let s = c.args.shape.now in (
      omega arith,
      rw (table_none (parent_at s)) refl,
      rw (table_none (weight_at s)) refl,
      rw (table_none (longest_at s)) refl,
    )

pub overflow_cast-parent : goal.overflow_cast-parent
overflow_cast-parent c =
    let i = c.loop-i.i in
    omega (arith, parent_in c.args.shape.now i c.loop-i-test.true, parent_fits _ c.requires i c.loop-i-test.true)

pub overflow_cast-weight : goal.overflow_cast-weight
overflow_cast-weight c =
    let i = c.loop-i.i in
    omega (arith, weight_in_lem c.args.shape.now i c.loop-i-test.true, weight_fits _ c.requires i c.loop-i-test.true)

pub overflow_cast-longest : goal.overflow_cast-longest
overflow_cast-longest c =
    let i = c.loop-i.i in
    omega (arith, longest_in c.args.shape.now i c.loop-i-test.true, longest_fits _ c.requires i c.loop-i-test.true)

pub loop-i-preserved : goal.loop-i-preserved
loop-i-preserved c =
    let s = c.args.shape.now in
    let i = c.loop-i.i in
    let u = c.loop-i-test.true in (
      omega arith,
      rw c.loop-i.invariant.1 (table_fill (parent_at s) 0 64 i u),
      rw c.loop-i.invariant.2 (table_fill (weight_at s) no_weight 64 i u),
      rw c.loop-i.invariant.3 (table_fill (longest_at s) 0 64 i u),
    )

pub returns : goal.returns
returns c =
    let s = c.args.shape.now in
    let e : c.loop-i.i ≡ 64 = omega arith in
    tree_back s _ _ _ (c.loop-i.invariant.1 ∙ rw e (append-nil (table (parent_at s) 64)))
    (c.loop-i.invariant.2 ∙ rw e (append-nil (table (weight_at s) 64)))
    (c.loop-i.invariant.3 ∙ rw e (append-nil (table (longest_at s) 64)))

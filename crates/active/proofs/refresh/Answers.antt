-- `active::refresh` meets its contract.
use mathlib.Core.List.{List, append-nil}
use mathlib.Core.Path.{◌≡◌, refl, ap, ◌∙◌}
use Prim.Native.Nat.{◌≤◌, ◌<◌}
use native.Mathlib.Omega.{arith}
use lib.ListN.{length, get_or, drop_of_length-le}
use Rattle.units.specs.declared.Weight.{Weight}
use Rattle.tree.specs.Class.{no_weight}
use Rattle.tree.specs.Sum.{table}
use Rattle.tree.proofs.Tables.{table_none, table_same, table_over}
use Rattle.shape.specs.Shape.{tree_in}
use Rattle.rules.specs.Active.{weight_sum}
use Rattle.rules.proofs.Sums.{sums_at}
use Rattle.active.proofs.refresh.Invariants.{weight_at}
use Rattle.active.proofs.refresh.Goals as goal

pub weight_sums-sums-requires : goal.weight_sums-sums-requires
weight_sums-sums-requires c = c.requires.0

pub loop-i-init : goal.loop-i-init
loop-i-init c = (omega arith, λ wide. rw (table_none (weight_at c.weight_sums-sums.result)) refl)

pub loop-i-preserved : goal.loop-i-preserved
loop-i-preserved c =
    let sums = c.weight_sums-sums.result in
    let kept = c.args.kept.now in (
      omega arith,
      λ wide.
          let u : c.loop-i.i < length kept = omega (arith, wide) in
          rw (c.loop-i.invariant.1 wide) (table_over (weight_at sums) 0 kept c.loop-i.i u),
    )

pub returns : goal.returns
returns c =
    let t = tree_in c.args.shape.now in
    let active = c.args.active in
    let wide = c.requires.1 in
    let all : c.loop-i.i ≡ 64 = omega arith in
    let short : length c.args.kept.now ≤ 64 = omega (arith, wide) in
    c.loop-i.invariant.1 wide
    ∙ rw (all, drop_of_length-le c.args.kept.now short) (append-nil (table (weight_at c.weight_sums-sums.result) 64))
    ∙ table_same (weight_at c.weight_sums-sums.result) (weight_sum t active) 64
    (λ p u. ap (λ (xs : List Weight). (get_or xs p no_weight).0) c.weight_sums-sums.ensures ∙ sums_at t active p u)

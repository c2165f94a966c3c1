-- `speed::opening::open_times` meets its contract.
use Rattle.std.proofs.Common.{◌≡◌, ℕ, false, sym, refl, ap, ◌∙◌, arith}
use Rattle.tree.specs.declared.Tree.{Tree}
use Rattle.shape.specs.Shape.{tree_in}
use Rattle.state.proofs.Shapes.{shaped}
use Rattle.steps.specs.Fields.{lent_link}
use Rattle.speed.specs.Openings.{opened_times}
use Rattle.speed.proofs.Steps.{opened_apart, opened_fields, opened_more}
use Rattle.speed.proofs.opening_times.open_times.Goals as goal
use Rattle.speed.proofs.opening_times.open_times.Goals.{At-loop-n}

-- the plan is one of rule 1
ruled : (h : At-loop-n) → (tree_in h.shape_of-shape.result).follows ≡ false
ruled h =
    ap (λ (t : Tree). t.follows) h.shape_of-shape.ensures ∙ h.requires.1

pub loop-n-init : goal.loop-n-init
loop-n-init c =
    let l = c.args.link in (
      opened_apart l c.requires.0 (shaped l _ c.well_formed.0).accounts _
          c.shape_of-shape.ensures _ _ c.balances-balance.ensures c.residuals-residual.ensures,
      refl,
    )

pub open_next-active-requires : goal.open_next-active-requires
open_next-active-requires c =
    ((_, opened_fields _ _ _ c.loop-n.invariant.0), ruled (goal.at.open_next-active-requires c).At-loop-n, c.loop-n.invariant.1)

pub loop-n-preserved : goal.loop-n-preserved
loop-n-preserved c = (
  opened_more _ _ c.loop-n._n _ c.loop-n.invariant.0 (ruled (goal.at.loop-n-preserved c).At-loop-n) (c.open_next-active.ensures.totals_after _ (opened_fields _ _ _ c.loop-n.invariant.0)),
  c.open_next-active.ensures.kept_len,
)

pub zipped-accounts-requires : goal.zipped-accounts-requires
zipped-accounts-requires c = c.loop-n.invariant.0.many

pub returns : goal.returns
returns c =
    let a = c.args in
    let l = a.link in
    let e : c.loop-n._n ≡ a.times = omega (arith, c.loop-n-test.false) in
    let tree = ap (λ (t : Tree). lent_link t l.round.size c.loop-n.active c.loop-n.place c.loop-n.balance c.loop-n.residual
    l.start
    l.held l.lengths l.tags l.marks l.totals) (sym c.shape_of-shape.ensures) in
    rw c.zipped-accounts.ensures (tree ∙ c.loop-n.invariant.0.same ∙ ap (λ (n : ℕ). opened_times n l) e)

-- `goes` meets its contract: a link is made up of its fields.
use mathlib.Core.Bool.{true}
use mathlib.Core.List.{List}
use mathlib.Core.Path.{◌≡◌, refl, sym, ap, ap₂, subst, ◌∙◌}
use Prim.Native.Nat.{ℕ}
use Rattle.units.specs.declared.Bytes.{Bytes}
use Rattle.tree.specs.declared.Tree.{Tree}
use Rattle.tree.specs.Rules.{PlanRules}
use Rattle.shape.specs.Shape.{tree_in}
use Rattle.state.specs.declared.Account.{Account}
use Rattle.state.specs.declared.Link.{Link}
use Rattle.state.specs.declared.Totals.{Totals}
use Rattle.state.specs.State.{link_of, round_of}
use Rattle.totals.specs.WorkedOut.{totals_for, InTotal}
use Rattle.totals.proofs.Sounds.{sound_total, total_is, light_near}
use Rattle.steps.specs.Fields.{lent_link}
use Rattle.steps.proofs.Rounding.{none_kept}
use Rattle.steps.proofs.Wholes.{apart_is}
use Rattle.published_link.proofs.Wholes.{ready_apart, wide_after, sent_whole}
use Rattle.published_link.proofs.goes.Goals as goal
use Rattle.published_link.proofs.goes.Goals.{After-residuals-residual, After-shape_of-shape}

-- put together again, with what the steps left, it is the link that they left
put_together : (l : Link) {t : Tree} {xs ys : List Account} {size : Bytes} {active place : ℕ} {start held : List ℕ} {totals : Totals}
    → t ≡ l.tree → xs ≡ ys
    → link_of l.tree l.lengths l.tags l.marks start held totals (round_of size.0 active place xs)
    ≡ link_of t l.lengths l.tags l.marks start held totals (round_of size.0 active place ys)
put_together l {t} {xs} {ys} {size} {active} {place} {start} {held} {totals} same e =
    ap₂ (λ (t : Tree) (zs : List Account). link_of t l.lengths l.tags l.marks start held totals
    (round_of size.0 active place zs)) (sym same) e

same : (c : After-shape_of-shape) → tree_in c.shape_of-shape.result ≡ c.args.second.link.tree
same c = c.shape_of-shape.ensures

rules : (c : After-shape_of-shape) → PlanRules (tree_in c.shape_of-shape.result)
rules c = subst PlanRules (sym (same c)) c.requires.sound.state.state.fits.tree

pub families-children-requires : goal.families-children-requires
families-children-requires c = rules (goal.at.families-children-requires c).After-shape_of-shape

-- its totals are worked out
all : (z : After-residuals-residual)
    → let l = z.args.second.link in InTotal (tree_in z.shape_of-shape.result) l.totals.packets l.totals.bytes
all z =
    let l = z.args.second.link in
    let shape = z.requires.shape.link in
    subst (λ (t : Tree). InTotal t l.totals.packets l.totals.bytes) (sym (same (goal.at.After-residuals-residual z).After-shape_of-shape))
    (sound_total l (record { state = z.requires.sound.state.state; starts = z.requires.sound.starts }) shape.packets shape.bytes)

-- the link in its fields is the link
apart : (z : After-residuals-residual)
    → let l = z.args.second.link in
    let t = tree_in z.shape_of-shape.result in
    lent_link t l.round.size l.round.active l.round.place
    z.balances-balance.result z.residuals-residual.result l.start l.held l.lengths l.tags l.marks
    (totals_for true t l.totals.packets l.totals.bytes l.totals.charged)
    ≡ l
apart z =
    let l = z.args.second.link in
    let t = tree_in z.shape_of-shape.result in
    ap (λ (x : Totals). lent_link t l.round.size l.round.active l.round.place
    z.balances-balance.result z.residuals-residual.result l.start l.held l.lengths l.tags l.marks x)
    (sym (total_is true t l.totals.packets l.totals.bytes l.totals.charged (λ _. all z)))
    ∙ apart_is l _ _ _ (same (goal.at.After-residuals-residual z).After-shape_of-shape) z.requires.shape.link z.balances-balance.ensures z.residuals-residual.ensures

pub send-sent-requires : goal.send-sent-requires
send-sent-requires c =
    (ready_apart c.args.second c.requires _ (apart (goal.at.send-sent-requires c).After-residuals-residual), c.families-children.ensures, none_kept _ _ refl (rules (goal.at.send-sent-requires c).After-shape_of-shape))

pub zipped-accounts_after-requires : goal.zipped-accounts_after-requires
zipped-accounts_after-requires c =
    wide_after c.args.second c.requires _ (apart (goal.at.zipped-accounts_after-requires c).After-residuals-residual) c.send-sent.result _ _ c.send-sent.ensures.wholly

pub work_out-requires : goal.work_out-requires
work_out-requires c =
    let l = c.args.second.link in
    let t = tree_in c.shape_of-shape.result in
    let near = c.send-sent.ensures.near in
    let law = rules (goal.at.work_out-requires c).After-shape_of-shape in
    λ on. (
      law,
      c.families-children.ensures,
      light_near t law l.totals.packets (all (goal.at.work_out-requires c).After-residuals-residual).room.packets near.0,
      light_near t law l.totals.bytes (all (goal.at.work_out-requires c).After-residuals-residual).room.bytes near.1,
    )

pub returns : goal.returns
returns c =
    rw (c.work_out.ensures.0, c.work_out.ensures.1)
    (sent_whole c.args.second c.requires _ (apart (goal.at.returns c).After-residuals-residual) c.send-sent.result _ _ c.send-sent.ensures.wholly c.departure.result _
    c.departure.ensures (put_together c.args.second.link (same (goal.at.returns c).After-shape_of-shape) c.zipped-accounts_after.ensures) refl)

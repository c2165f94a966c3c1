-- `in_place::entries` meets its contract: the link of the locals is the link after the entries before the place.
use mathlib.Core.Bool.{true}
use mathlib.Core.List.{List}
use mathlib.Core.Path.{◌≡◌, refl, sym, ap, ap₂, subst, ◌∙◌}
use Prim.Native.Nat.{ℕ, ◌+◌, ◌-◌}
use native.Mathlib.Omega.{arith}
use lib.ListN.{length, take, drop, length-drop}
use lib.Seq.{take_all}
use Rattle.tree.proofs.Classes.{both_true}
use Rattle.tree.specs.declared.Tree.{Tree}
use Rattle.tree.specs.Rules.{PlanRules}
use Rattle.shape.specs.Shape.{tree_in}
use Rattle.plan.specs.Entry.{entry_at}
use Rattle.state.specs.declared.Link.{Link}
use Rattle.state.specs.declared.Totals.{Totals}
use Rattle.state.specs.Queue.{Shaped}
use Rattle.state.proofs.Shapes.{shaped}
use Rattle.steps.specs.declared.Stand.{Stand}
use Rattle.totals.specs.WorkedOut.{totals_for, InTotal}
use Rattle.totals.proofs.Sounds.{sound_roomy, sound_total, total_is, light_here}
use Rattle.steps.specs.Fields.{lent_link, link_at}
use Rattle.steps.specs.Rounds.{Kept}
use Rattle.steps.proofs.Rounding.{none_kept}
use Rattle.steps.proofs.Wholes.{apart_is}
use Rattle.claims.specs.declared.Checked.{Checked}
use Rattle.claims.specs.declared.in_place.Did.{Did}
use Rattle.claims.specs.Recording.{goes_on, takes_one}
use Rattle.claims.specs.Steps.{checked_by, Enters, PartDone}
use Rattle.claims.proofs.Checking.{way_at, loop_starts, loop_on, loop_ends, left_less, test_same}
use Rattle.claims.proofs.in_place.entries.Goals as goal
use Rattle.claims.proofs.in_place.entries.Goals.{After-entry-s, After-goes_on-s, After-shape_of-shape, At-loop-kept, In-loop-kept}

-- what is handed on is what follows
handed : (s : List ℕ) (k : ℕ) → take (length s - k) (drop k s) ≡ drop k s
handed s k = take_all (length s - k) (drop k s) (omega (arith, length-drop k s))

abbrev treeAt : After-goes_on-s → Tree
treeAt o = tree_in o.shape_of-shape.result

lawful : (s : After-shape_of-shape) → PlanRules (tree_in s.shape_of-shape.result)
lawful s = subst PlanRules (sym s.shape_of-shape.ensures) s.requires.0.state.fits.tree

-- with the numbers that the check began with its fields are the link
abbrev apartAs : After-goes_on-s → Totals → Stand → Link
apartAs o totals stand =
    let l = o.args.link in
    lent_link (treeAt o) stand.size stand.active stand.place
    o.balances-balance.result
    o.residuals-residual.result
    l.start l.held l.lengths l.tags l.marks totals

abbrev apartAt : After-goes_on-s → Stand → Link
apartAt o stand =
    let l = o.args.link in
    apartAs o (totals_for true (treeAt o) l.totals.packets l.totals.bytes stand.charged) stand

-- its totals are worked out
out : (o : After-goes_on-s) → let l = o.args.link in
    totals_for true (treeAt o) l.totals.packets l.totals.bytes l.totals.charged ≡ l.totals
out o =
    let l = o.args.link in
    let long = shaped l _ o.well_formed.0 in
    let same = sym o.shape_of-shape.ensures in
    sym (total_is true (treeAt o) l.totals.packets l.totals.bytes l.totals.charged (λ _.
    subst (λ (t : Tree). InTotal t l.totals.packets l.totals.bytes) same
    (sound_total l o.requires.0 long.packets long.bytes)))

abbrev apart : After-goes_on-s → Did → Link
apart o d = apartAt o d.stand

abbrev standAt : After-goes_on-s → Stand
standAt o =
    let l = o.args.link in
    record { known = 0; size = l.round.size; active = l.round.active; place = l.round.place; charged = l.totals.charged }

whole : (o : After-goes_on-s) → apart o o.goes_on-s.result ≡ o.args.link
whole o =
    ap (apart o) o.goes_on-s.ensures
    ∙ ap (λ (x : Totals). apartAs o x (standAt o)) (out o)
    ∙ apart_is o.args.link (treeAt o) _ _ o.shape_of-shape.ensures
    (shaped o.args.link _ o.well_formed.0) o.balances-balance.ensures
    o.residuals-residual.ensures

starts : (c : After-goes_on-s)
    → checked_by c.goes_on-s.result (apart c c.goes_on-s.result)
    ≡ goes_on c.args.link c.args.place c.args.claims
starts c = ap₂ checked_by c.goes_on-s.ensures (whole c)

abbrev linkAs : At-loop-kept → Tree → Tree → Link
linkAs h t u =
    let v = h.loop-kept in
    let s = v.s.stand in
    lent_link t s.size s.active s.place v.balance v.residual v.start v.held v.lengths v.tags v.marks
    (totals_for true u v.packets v.bytes s.charged)

abbrev linkNow : At-loop-kept → Tree → Link
linkNow h t =
    let v = h.loop-kept in
    link_at true t v.s.stand v.balance v.residual v.start v.held v.lengths v.tags v.marks v.packets v.bytes

abbrev sofar : At-loop-kept → Checked
sofar h = checked_by h.loop-kept.s (linkNow h (treeAt (goal.at.At-loop-kept h).After-goes_on-s))

taken : (t : In-loop-kept)
    → let a = t.args in takes_one a.last (way_at a.place a.part.now (sofar (goal.at.In-loop-kept t).At-loop-kept)) ≡ true
taken t =
    let a = t.args in
    sym (test_same a.last a.place a.part.now (sofar (goal.at.In-loop-kept t).At-loop-kept)) ∙ sym t.takes_one.ensures ∙ t.loop-kept-test.true

-- what follows is handed on
follows : (c : After-entry-s) {l after : Link} {place claims : ℕ} {r : Did}
    → let s = c.args.part.now in
    let k = c.loop-kept.s.place - c.args.place in
    Enters l place claims (entry_at (take (length s - k) (drop k s))) r after → Enters l place claims (entry_at (drop k s)) r after
follows c {l} {after} {place} {claims} {r} e =
    subst (λ (rest : List ℕ). Enters l place claims (entry_at rest) r after)
    (handed c.args.part.now (c.loop-kept.s.place - c.args.place)) e

pub families-children-requires : goal.families-children-requires
families-children-requires c = lawful (goal.at.families-children-requires c).After-shape_of-shape

pub loop-kept-init : goal.loop-kept-init
loop-kept-init c =
    let a = c.args in (
      loop_starts a.last a.link a.place a.claims a.part.now _ (starts c) c.requires.0,
      subst Shaped (sym (whole c)) (shaped a.link _ c.well_formed.0),
      subst (λ (d : Did). Kept (treeAt c) d.stand.known _) (sym c.goes_on-s.ensures) (none_kept _ _ refl (lawful (goal.at.loop-kept-init c).After-shape_of-shape)),
    )

pub overflow_sub-s : goal.overflow_sub-s
overflow_sub-s c = c.loop-kept.invariant.0.forward

pub overflow_sub-part : goal.overflow_sub-part
overflow_sub-part c = let i = c.loop-kept.invariant.0 in omega (arith, i.forward, i.within)

pub overflow_sub-at : goal.overflow_sub-at
overflow_sub-at c = c.loop-kept.invariant.0.forward

pub slice_bounds-entry-count : goal.slice_bounds-entry-count
slice_bounds-entry-count c = let i = c.loop-kept.invariant.0 in omega (arith, i.forward, i.within)

pub slice_bounds-entry-start : goal.slice_bounds-entry-start
slice_bounds-entry-start c = let i = c.loop-kept.invariant.0 in omega (arith, i.forward, i.within)

pub entry-s-requires : goal.entry-s-requires
entry-s-requires c =
    let s = c.args.part.now in
    let i = c.loop-kept.invariant.0 in
    let follow = handed s (c.loop-kept.s.place - c.args.place) in
    let many = length-drop (c.loop-kept.s.place - c.args.place) s in (
      record { sound = i.sound; shape = c.loop-kept.invariant.1 },
      rw follow (omega (arith, i.forward, i.within, c.requires.1, many)),
      rw follow (omega (arith, i.forward, i.within, i.counted, c.requires.2, many)),
      c.families-children.ensures,
      c.loop-kept.invariant.2,
    )

pub loop-kept-smaller : goal.loop-kept-smaller
loop-kept-smaller c =
    let a = c.args in
    let d = follows c c.entry-s.ensures.enters in
    let on = loop_on a.last a.place a.claims a.part.now _ (sofar (goal.at.loop-kept-smaller c).At-loop-kept) _ c.loop-kept.invariant.0 (taken (goal.at.loop-kept-smaller c).In-loop-kept) d.gives d.on.sound in
    rw (both_true c.loop-kept.s.more _ (taken (goal.at.loop-kept-smaller c).In-loop-kept)).0
    (left_less c.entry-s.result.more (a.place + length a.part.now - c.entry-s.result.place)
    (a.place + length a.part.now - c.loop-kept.s.place) (λ m. omega (arith, on.1 m, on.0.within)))

pub loop-kept-preserved : goal.loop-kept-preserved
loop-kept-preserved c =
    let a = c.args in
    let d = follows c c.entry-s.ensures.enters in (
      (loop_on a.last a.place a.claims a.part.now _ (sofar (goal.at.loop-kept-preserved c).At-loop-kept) _ c.loop-kept.invariant.0 (taken (goal.at.loop-kept-preserved c).In-loop-kept) d.gives d.on.sound).0,
      d.on.shape,
      c.entry-s.ensures.kept,
    )

pub zipped-accounts-requires : goal.zipped-accounts-requires
zipped-accounts-requires c = c.loop-kept.invariant.1.accounts

pub work_out-requires : goal.work_out-requires
work_out-requires c =
    let v = c.loop-kept in
    let t = treeAt (goal.at.work_out-requires c).After-goes_on-s in
    let rules = lawful (goal.at.work_out-requires c).After-shape_of-shape in
    let room = sound_roomy (linkNow (goal.at.work_out-requires c).At-loop-kept t) v.invariant.0.sound in
    λ on. (
      rules,
      c.families-children.ensures,
      light_here t rules v.packets room.packets,
      light_here t rules v.bytes room.bytes,
    )

pub returns : goal.returns
returns c =
    let a = c.args in
    let Done : Link → Type 0 = λ after. PartDone a.last a.link a.place a.claims a.part.now
    (checked_by c.loop-kept.s after) in
    rw (c.zipped-accounts.ensures, c.work_out.ensures.0, c.work_out.ensures.1)
    (subst (λ (t : Tree). Done (linkAs (goal.at.returns c).At-loop-kept t (treeAt (goal.at.returns c).After-goes_on-s))) c.shape_of-shape.ensures
    (loop_ends a.last a.link a.place a.claims a.part.now _ (sofar (goal.at.returns c).At-loop-kept) (starts (goal.at.returns c).After-goes_on-s) c.loop-kept.invariant.0
    (sym (test_same a.last a.place a.part.now (sofar (goal.at.returns c).At-loop-kept)) ∙ sym c.takes_one.ensures ∙ c.loop-kept-test.false)))

-- `in_place::part_of` meets its contract: the link of the locals is the link after the events before the place, and their lines are laid.
use mathlib.Core.Bool.{Bool, true, false, ◌&&◌}
use mathlib.Core.Path.{◌≡◌, refl, sym, ap, subst, ◌∙◌}
use Prim.Native.Nat.{◌+◌, ◌≤◌}
use native.Mathlib.Omega.{arith}
use lib.Dec.{leb}
use lib.ListN.{length}
use Rattle.checks.specs.Check.{Exactly}
use Rattle.tree.proofs.Classes.{both_true}
use Rattle.tree.specs.declared.Tree.{Tree}
use Rattle.tree.specs.Rules.{PlanRules}
use Rattle.shape.specs.Shape.{tree_in}
use Rattle.state.specs.declared.Link.{Link}
use Rattle.state.specs.declared.Totals.{Totals}
use Rattle.state.specs.Queue.{Shaped}
use Rattle.state.proofs.Shapes.{shaped}
use Rattle.sound.specs.Sound.{SoundLink}
use Rattle.lines.specs.Line.{line_room}
use Rattle.totals.specs.WorkedOut.{totals_for, Roomy, InTotal}
use Rattle.totals.proofs.Sounds.{sound_roomy, sound_total, total_is, light_here, root_for}
use Rattle.steps.specs.Fields.{lent_link, link_at}
use Rattle.steps.specs.declared.Stand.{Stand}
use Rattle.answers.specs.declared.event.Heard.{Heard}
use Rattle.answers.specs.Steps.{Told}
use Rattle.steps.proofs.Wholes.{apart_is}
use Rattle.parts.specs.Steps.{reply_says, Taken}
use Rattle.run.proofs.Lines.{steps_less, next_on}
use Rattle.parts.proofs.Happenings.{lays_as, event_goes}
use Rattle.parts.proofs.Parts.{laying_starts, laying_on, laying_ends}
use borrow.Author.Tests.{leb-true}
use Rattle.parts.proofs.in_place.part_of.Goals as goal
use Rattle.parts.proofs.in_place.part_of.Goals.{After-outcome-run, After-shape_of-shape, At-loop-kept, In-loop-kept}

abbrev treeAt : After-outcome-run → Tree
treeAt o = tree_in o.shape_of-shape.result

-- where the part begins
abbrev beginsAt : After-outcome-run → Bool → Stand → Link
beginsAt o sound stand =
    let l = o.args.link in
    link_at sound (treeAt o) stand o.balances-balance.result
    o.residuals-residual.result
    l.start l.held l.lengths l.tags l.marks l.totals.packets
    l.totals.bytes

abbrev begins : After-outcome-run → Link
begins o = beginsAt o o.outcome-run.result.sound o.outcome-run.result.stand

-- the link as it was taken apart is the link
abbrev standAt : After-outcome-run → Stand
standAt o =
    let l = o.args.link in
    record {
      known = o.sums_now-known.result;
      size = l.round.size;
      active = l.round.active;
      place = l.round.place;
      charged = l.totals.charged;
    }

taken_apart : (o : After-outcome-run) → beginsAt o false (standAt o) ≡ o.args.link
taken_apart o =
    apart_is o.args.link (treeAt o) _ _ o.shape_of-shape.ensures
    (shaped o.args.link _ o.well_formed.1.0) o.balances-balance.ensures
    o.residuals-residual.ensures

-- and sound, its totals are worked out
told_apart : (o : After-outcome-run) → beginsAt o o.args.sound (standAt o) ≡ o.args.link
told_apart o =
    let a = o.args in
    let l = a.link in
    let s = standAt o in
    let long = shaped l _ o.well_formed.1.0 in
    let same = sym o.shape_of-shape.ensures in
    let all : a.sound ≡ true → InTotal (treeAt o) l.totals.packets l.totals.bytes = λ on.
    subst (λ (t : Tree). InTotal t l.totals.packets l.totals.bytes) same
    (sound_total l (o.requires.sound on) long.packets long.bytes) in
    ap (λ (x : Totals). lent_link (treeAt o) s.size s.active s.place o.balances-balance.result
    o.residuals-residual.result l.start l.held l.lengths l.tags l.marks x)
    (sym (total_is a.sound (treeAt o) l.totals.packets l.totals.bytes l.totals.charged all))
    ∙ taken_apart o

apart : (o : After-outcome-run) → begins o ≡ o.args.link
apart o = ap (λ (d : Heard). beginsAt o d.sound d.stand) o.outcome-run.ensures ∙ told_apart o

-- its tree obeys the rules where it is sound
lawful : (s : After-shape_of-shape)
    → s.args.sound ≡ true → PlanRules (tree_in s.shape_of-shape.result)
lawful s on =
    subst PlanRules (sym s.shape_of-shape.ensures) (s.requires.sound on).state.fits.tree

-- the link of the locals, which is as sound as the link was
abbrev linkAs : At-loop-kept → Bool → Tree → Tree → Link
linkAs h sound t u =
    let v = h.loop-kept in
    let s = v.run.stand in
    lent_link t s.size s.active s.place v.balance v.residual v.start v.held v.lengths v.tags v.marks
    (totals_for sound u v.packets v.bytes s.charged)

abbrev linkNow : At-loop-kept → Tree → Link
linkNow h t =
    let v = h.loop-kept in
    link_at v.run.sound t v.run.stand v.balance v.residual v.start v.held v.lengths v.tags v.marks
    v.packets v.bytes

as_sound : (h : At-loop-kept)
    → Exactly h.args.sound (SoundLink (linkNow h (treeAt (goal.at.At-loop-kept h).After-outcome-run)))
as_sound h =
    h.loop-kept.invariant.0.kept h.args.sound
    (subst (λ (l : Link). Exactly h.args.sound (SoundLink l)) (sym (apart (goal.at.At-loop-kept h).After-outcome-run)) h.requires)

told_at : (h : At-loop-kept) → Told h.loop-kept.run.sound (linkNow h (treeAt (goal.at.At-loop-kept h).After-outcome-run))
told_at h = record {
  exactly = subst (λ (b : Bool). Exactly b (SoundLink (linkNow h (treeAt (goal.at.At-loop-kept h).After-outcome-run)))) (sym h.loop-kept.invariant.2) (as_sound h);
  shape = h.loop-kept.invariant.1;
}

-- an event more is taken where the run goes on and there is room for its line
taken : (c : In-loop-kept)
    → let h = c.loop-kept in (h.run.more && leb (h.laid + line_room) (length h.out)) ≡ true
taken c = sym c.takes_one.ensures ∙ c.loop-kept-test.true

room : (c : In-loop-kept) → c.loop-kept.laid + line_room ≤ length c.loop-kept.out
room c =
    let h = c.loop-kept in
    leb-true (h.laid + line_room) (length h.out) (both_true h.run.more _ (taken c)).1

pub children_of-children-requires : goal.children_of-children-requires
children_of-children-requires c = lawful (goal.at.children_of-children-requires c).After-shape_of-shape

pub sums_now-known-requires : goal.sums_now-known-requires
sums_now-known-requires c =
    (lawful (goal.at.sums_now-known-requires c).After-shape_of-shape, refl)

pub loop-kept-init : goal.loop-kept-init
loop-kept-init c =
    let a = c.args in
    rw c.outcome-run.ensures (
      laying_starts _ a.input.now a.place a.out.now,
      subst Shaped (sym (told_apart c)) (shaped a.link _ c.well_formed.1.0),
      refl,
      c.sums_now-known.ensures,
    )

pub takes_one-requires : goal.takes_one-requires
takes_one-requires c = let y = c.loop-kept.invariant.0 in omega (arith, y.within, y.long)

pub event-run-requires : goal.event-run-requires
event-run-requires c =
    let same = c.loop-kept.invariant.2 in (
      told_at (goal.at.event-run-requires c).At-loop-kept,
      λ on. (
        c.children_of-children.ensures (sym same ∙ on),
        c.loop-kept.invariant.3 (sym same ∙ on),
      ),
    )

pub lay_reply-laid-requires : goal.lay_reply-laid-requires
lay_reply-laid-requires c = room
    (goal.at.lay_reply-laid-requires c).In-loop-kept

pub loop-kept-smaller : goal.loop-kept-smaller
loop-kept-smaller c =
    let a = c.args in
    let run = c.event-run.result in
    let was = c.loop-kept.run in
    let at : At-loop-kept = (goal.at.loop-kept-smaller c).At-loop-kept in
    let link : Link = linkNow at (treeAt (goal.at.At-loop-kept at).After-outcome-run) in
    steps_less a.input.now run.more run.place was.more was.place (both_true was.more _ (taken (goal.at.loop-kept-smaller c).In-loop-kept)).0
    (next_on link a.input.now was.place _ (event_goes link a.input.now was.place was.sound (told_at at) run _
    c.event-run.ensures.hears))

pub loop-kept-preserved : goal.loop-kept-preserved
loop-kept-preserved c =
    let a = c.args in
    let was = c.loop-kept.run in
    let same = c.loop-kept.invariant.2 in
    let heard = c.event-run.ensures.hears in
    let lays =
    lays_as _ _ _ _ (ap (reply_says c.event-run.result.reply) (root_for c.event-run.result.sound (treeAt (goal.at.loop-kept-preserved c).After-outcome-run) _))
    c.lay_reply-laid.ensures in (
      laying_on _ a.input.now a.place a.out.now _ _ _ c.lay_reply-laid.result _ c.loop-kept.invariant.0
          (event_goes _ a.input.now was.place was.sound (told_at (goal.at.loop-kept-preserved c).At-loop-kept) c.event-run.result _ heard) (taken (goal.at.loop-kept-preserved c).In-loop-kept)
          lays.0 (omega (arith, lays.1, room (goal.at.loop-kept-preserved c).In-loop-kept, c.loop-kept.invariant.0.long)),
      heard.told.shape,
      heard.same ∙ same,
      λ on. c.event-run.ensures.kept (same ∙ on),
    )

pub zipped-accounts-requires : goal.zipped-accounts-requires
zipped-accounts-requires c = c.loop-kept.invariant.1.accounts

pub work_out-requires : goal.work_out-requires
work_out-requires c =
    let v = c.loop-kept in
    let t = treeAt (goal.at.work_out-requires c).After-outcome-run in
    λ on.
    let rules = lawful (goal.at.work_out-requires c).After-shape_of-shape on in
    let room : Roomy (totals_for true t v.packets v.bytes v.run.stand.charged) =
    subst (λ (b : Bool). Roomy (totals_for b t v.packets v.bytes v.run.stand.charged)) (v.invariant.2 ∙ on)
    (sound_roomy (linkNow (goal.at.work_out-requires c).At-loop-kept t) ((as_sound (goal.at.work_out-requires c).At-loop-kept).sound on)) in (
      rules,
      c.children_of-children.ensures on,
      light_here t rules v.packets room.packets,
      light_here t rules v.bytes room.bytes,
    )

pub returns : goal.returns
returns c =
    let a = c.args in
    let v = c.loop-kept in
    let TakenBy : Link → Link → Type 0 = λ l after.
    Taken l a.input.now a.place a.out.now
    (record { laid = v.laid; more = v.run.more; link = after; place = v.run.place }) v.out in
    rw (c.zipped-accounts.ensures, c.work_out.ensures.0, c.work_out.ensures.1)
    (subst (λ (b : Bool). TakenBy a.link (linkAs (goal.at.returns c).At-loop-kept b a.link.tree (treeAt (goal.at.returns c).After-outcome-run))) v.invariant.2
    (subst (λ (x : Tree). TakenBy a.link (linkAs (goal.at.returns c).At-loop-kept v.run.sound x (treeAt (goal.at.returns c).After-outcome-run))) c.shape_of-shape.ensures
    (subst (λ (l : Link). TakenBy l (linkNow (goal.at.returns c).At-loop-kept (treeAt (goal.at.returns c).After-outcome-run))) (apart (goal.at.returns c).After-outcome-run)
    (laying_ends _ a.input.now a.place a.out.now _ v.out v.invariant.0
    (sym c.takes_one.ensures ∙ c.loop-kept-test.false)))))

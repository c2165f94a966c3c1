-- `answers::make_calls` meets its contract: the link of the arrays is the one after the calls made so far, and their rows are laid.
use mathlib.Core.Bool.{Bool, true, ◌&&◌}
use mathlib.Core.Path.{◌≡◌, refl, sym, subst, ◌∙◌}
use Prim.Native.Nat.{◌+◌, ◌≤◌}
use native.Mathlib.Omega.{arith}
use lib.Dec.{leb}
use lib.ListN.{length}
use borrow.Author.Tests.{leb-true}
use Rattle.tree.proofs.Classes.{both_true}
use Rattle.shape.specs.Shape.{tree_in}
use Rattle.state.specs.declared.Link.{Link}
use Rattle.steps.specs.Fields.{link_at}
use Rattle.steps.proofs.Rounding.{none_kept}
use Rattle.run.proofs.Lines.{steps_less}
use Rattle.answers.specs.declared.event.Heard.{Heard}
use Rattle.answers.specs.Steps.{Told, Served}
use Rattle.answers.proofs.Events.{heard_sound}
use Rattle.answers.proofs.Bursts.{making_starts, making_within, making_on, making_ends, laid_moves}
use Rattle.answers.proofs.make_calls.Invariants.{next_of}
use Rattle.answers.proofs.make_calls.Goals as goal
use Rattle.answers.proofs.make_calls.Goals.{In-loop-kept}

-- told to be sound
told_as : {b : Bool} {l : Link} → b ≡ true → Told true l → Told b l
told_as {l = l} e h = subst (λ (x : Bool). Told x l) (sym e) h

told_is : {b : Bool} {l : Link} → b ≡ true → Told b l → Told true l
told_is {l = l} e h = subst (λ (x : Bool). Told x l) e h

pub loop-kept-init : goal.loop-kept-init
loop-kept-init c =
    let a = c.args in
    rw c.outcome-run.ensures (
      making_starts _ a.input.now a.place a.out.now c.last_reply-first.result,
      c.requires.0,
      refl,
      rw c.requires.2 (none_kept _ _ refl (c.requires.0.exactly.sound refl).state.fits.tree),
    )

pub takes_one-requires : goal.takes_one-requires
takes_one-requires c = making_within _ _ _ _ _ _ _ c.loop-kept.invariant.0

-- an event more is taken where the run goes on and there is room for its row
taken : (c : In-loop-kept)
    → let h = c.loop-kept in (h.run.more && leb (h.laid + 8) (length h.out)) ≡ true
taken c = sym c.takes_one.ensures ∙ c.loop-kept-test.true

room : (c : In-loop-kept) → c.loop-kept.laid + 8 ≤ length c.loop-kept.out
room c =
    let h = c.loop-kept in
    leb-true (h.laid + 8) (length h.out) (both_true h.run.more _ (taken c)).1

pub event-run-requires : goal.event-run-requires
event-run-requires c =
    (c.loop-kept.invariant.1, λ _. (c.requires.1, c.loop-kept.invariant.3))

pub lay_call-laid-requires : goal.lay_call-laid-requires
lay_call-laid-requires c = room (goal.at.lay_call-laid-requires c).In-loop-kept

-- what an event leaves
pub loop-kept-smaller : goal.loop-kept-smaller
loop-kept-smaller c =
    let a = c.args in
    let run = c.event-run.result in
    steps_less a.out.now run.more c.lay_call-laid.result c.loop-kept.run.more c.loop-kept.laid
    (both_true c.loop-kept.run.more _ (taken (goal.at.loop-kept-smaller c).In-loop-kept)).0
    (λ m. let moved = laid_moves run.more run.reply _ _ _ _ c.lay_call-laid.ensures m in
    (omega (arith, moved), omega (arith, moved, room (goal.at.loop-kept-smaller c).In-loop-kept, c.loop-kept.invariant.0.long)))

pub loop-kept-preserved : goal.loop-kept-preserved
loop-kept-preserved c =
    let a = c.args in
    let on = c.loop-kept.invariant.2 in
    let heard = heard_sound on c.event-run.ensures.hears in (
      making_on _ a.input.now a.place a.out.now _ _ _ c.loop-kept.invariant.0 (both_true c.loop-kept.run.more _ (taken (goal.at.loop-kept-preserved c).In-loop-kept)).0
          (room (goal.at.loop-kept-preserved c).In-loop-kept) c.lay_call-laid.result _ _ heard.next c.lay_call-laid.ensures,
      told_as heard.same heard.told,
      heard.same,
      c.event-run.ensures.kept on,
    )

pub returns : goal.returns
returns c =
    let a = c.args in
    let v = c.loop-kept in
    let t = tree_in a.shape.now in
    let link : Bool → Link = λ sound. link_at sound t v.run.stand v.balance v.residual v.start v.held v.lengths v.tags
    v.marks v.packets v.bytes in
    let from : Heard → Link = λ d. link_at d.sound t d.stand a.balance.now a.residual.now a.start.now a.held.now
    a.lengths.now a.tags.now a.marks.now a.packets.now a.bytes.now in
    subst (λ (d : Heard). Served (from d) a.input.now a.place a.out.now (record { run = v.run; laid = v.laid }) v.out
    (link true)) c.outcome-run.ensures
    (subst (λ (b : Bool). Served (from c.outcome-run.result) a.input.now a.place a.out.now
    (record { run = v.run; laid = v.laid }) v.out
    (link b)) v.invariant.2
    (making_ends _ a.input.now a.place a.out.now (next_of v.run (link v.run.sound)) v.laid v.out v.invariant.0 _ refl
    refl refl refl (sym c.takes_one.ensures ∙ c.loop-kept-test.false) (told_is v.invariant.2 v.invariant.1)))

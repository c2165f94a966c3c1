-- `silent::why` meets its contract: 11, then 12, else the reason.
use mathlib.Core.Bool.{not}
use mathlib.Core.Path.{◌≡◌, sym, ap, ◌∙◌}
use Prim.Native.Nat.{ℕ}
use Rattle.checks.specs.declared.Refusal.TheVariants.{NoLeaf, NotSound}
use Rattle.checks.specs.Check.{Exactly}
use Rattle.checks.proofs.Laws.{decides, pass_over, none_broken}
use Rattle.sets.specs.Set.{has}
use Rattle.tree.specs.Class.{is_leaf}
use Rattle.state.specs.declared.Link.{Link}
use Rattle.sound.specs.Sound.{SoundLink}
use Rattle.calls.specs.Arrival.{no_leaf}
use Rattle.reasons.proofs.Answers.{refused_why, told_why}
use Rattle.answers.specs.Burst.{link_in, stand_in}
use Rattle.cometbanjo.proofs.silent.why.Goals as goal
use Rattle.cometbanjo.proofs.silent.why.Goals.{After-holds, After-sound_in, Start}

-- the link in the arrays
abbrev whole : Start → Link
whole st =
    let a = st.args in
    link_in a.shape.now a.stand.now a.balance.now a.residual.now a.start.now a.held.now a.lengths.now
    a.tags.now a.marks.now a.packets.now a.bytes.now

-- whether it is sound was decided, and whether the class is a leaf of its tree
decided : (p : After-sound_in) → Exactly p.sound_in.result (SoundLink (whole (goal.at.After-sound_in p).Start))
decided p = p.sound_in.ensures p.args.tags.now p.args.marks.now

leaf : (h : After-holds) → h.holds.result ≡ has (whole (goal.at.After-holds h).Start).tree.leaves h.args.class
leaf h = h.holds.ensures.0 ∙ ap (λ (s : ℕ). has s h.args.class) h.leaves.ensures

pub returns-then-not-sound_in : goal.returns-then-not-sound_in
returns-then-not-sound_in c =
    refused_why (whole (goal.at.returns-then-not-sound_in c).Start) c.args.class c.sound_in.result (decided (goal.at.returns-then-not-sound_in c).After-sound_in) NotSound 0
    (decides _ _ (ap not c.if-not-sound_in.true))

pub returns-then-not-holds : goal.returns-then-not-holds
unfolding no_leaf is_leaf
returns-then-not-holds c =
    let i = c.args.class in
    refused_why (whole (goal.at.returns-then-not-holds c).Start) i c.sound_in.result (decided (goal.at.returns-then-not-holds c).After-sound_in) NoLeaf i
    (pass_over _ _ (ap not c.if-not-sound_in.false) ∙ decides _ _ (ap not (sym (leaf (goal.at.returns-then-not-holds c).After-holds)) ∙ (ap not c.if-not-holds.true)))

pub reason_in-reason-requires : goal.reason_in-reason-requires
unfolding is_leaf
reason_in-reason-requires c = (
  (decided (goal.at.reason_in-reason-requires c).After-sound_in).sound c.if-not-sound_in.false,
  sym (leaf (goal.at.reason_in-reason-requires c).After-holds) ∙ c.if-not-holds.false,
  (c.known.ensures (whole (goal.at.reason_in-reason-requires c).Start).tree (stand_in c.args.stand.now)).accounts,
)

pub returns : goal.returns
unfolding no_leaf is_leaf
returns c =
    told_why (whole (goal.at.returns c).Start) c.args.class c.sound_in.result (decided (goal.at.returns c).After-sound_in) c.reason_in-reason.result
    (pass_over _ _ (ap not c.if-not-sound_in.false) ∙ pass_over _ _ (ap not (sym (leaf (goal.at.returns c).After-holds)) ∙ (ap not c.if-not-holds.false)) ∙ none_broken)
    c.reason_in-reason.ensures

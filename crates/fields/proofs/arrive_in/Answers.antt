-- `fields::arrive_in` meets its contract: the step of an arrival, told whether the link that the fields make up is sound.
use mathlib.Core.Path.{◌≡◌, sym, subst}
use lib.ListN.{length}
use denote.Struct.Laws as LL
use Rattle.state.specs.contracts.Totals as N
use Rattle.state.proofs.Totals.TheLaws as N'
use Rattle.state.specs.declared.Link.{Link}
use Rattle.tree.specs.declared.Tree.{Tree}
use Rattle.tree.specs.Rules.{PlanRules}
use Rattle.totals.specs.WorkedOut.{InTotal}
use Rattle.totals.proofs.Sounds.{sound_total}
use Rattle.state.specs.State.{link_of}
use Rattle.state.proofs.Shapes.{accounts_shaped}
use Rattle.checks.specs.Check.{Exactly}
use Rattle.sound.specs.Sound.{SoundLink}
use Rattle.sound.proofs.Lent.{lent_exactly}
use Rattle.fields.proofs.arrive_in.Goals as goal
use Rattle.fields.proofs.arrive_in.Goals.{After-is_sound_at-sound, Start}

-- each class number has a total
counts : (st : Start) → length st.args.totals.bytes ≡ 64
counts st =
    let n = LL.owed N.the_type N'.the_laws st.args.totals _ st.well_formed.1.1.1.0 in
    n.1.0.1.0.1

packets_wide : (st : Start) → length st.args.totals.packets ≡ 64
packets_wide st =
    let n = LL.owed N.the_type N'.the_laws st.args.totals _ st.well_formed.1.1.1.0 in
    n.0.1.0.1

-- there are as many accounts as class numbers
many : (st : Start) → length st.args.round.accounts ≡ 64
many st = accounts_shaped st.args.round _ st.well_formed.1.1.1.1.0

-- the link that the fields make up
abbrev whole : Start → Link
whole st =
    let a = st.args in
    link_of a.tree a.lengths.now a.tags.now a.marks.now a.start a.held a.totals a.round

-- whether it is sound was decided of the numbers that it was taken apart into
decided : (s : After-is_sound_at-sound) → Exactly s.is_sound_at-sound.result (SoundLink (whole (goal.at.After-is_sound_at-sound s).Start))
decided s =
    let l = whole (goal.at.After-is_sound_at-sound s).Start in
    lent_exactly l s.shape_of-shape.result s.balances-balance.result s.residuals-residual.result s.shape_of-shape.ensures (many (goal.at.After-is_sound_at-sound s).Start)
    s.balances-balance.ensures s.residuals-residual.ensures s.is_sound_at-sound.result
    (s.is_sound_at-sound.ensures.by_index l.tags l.marks l.totals.charged)

pub arrive-answer-requires : goal.arrive-answer-requires
arrive-answer-requires c =
    let l = whole (goal.at.arrive-answer-requires c).Start in
    λ on.
    let sound = (decided (goal.at.arrive-answer-requires c).After-is_sound_at-sound).sound on in
    let same = sym c.shape_of-shape.ensures in (
      subst PlanRules same sound.state.fits.tree,
      c.is_sound_at-sound.ensures.families on,
      subst (λ (t : Tree). InTotal t l.totals.packets l.totals.bytes) same
          (sound_total l sound (packets_wide (goal.at.arrive-answer-requires c).Start) (counts (goal.at.arrive-answer-requires c).Start)),
    )

pub returns : goal.returns
returns c =
    record {
      sound = c.is_sound_at-sound.result;
      exactly = decided (goal.at.returns c).After-is_sound_at-sound;
      gives = c.arrive-answer.ensures (whole (goal.at.returns c).Start) (sym c.shape_of-shape.ensures)
          (λ on. record { sound = (decided (goal.at.returns c).After-is_sound_at-sound).sound on; wide = counts (goal.at.returns c).Start });
    }

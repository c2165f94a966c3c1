-- `fields::totals_of` meets its contract: the totals of a sound link are the sums over the leaves.
use mathlib.Core.Bool.{Bool}
use mathlib.Core.List.{List}
use mathlib.Core.Path.{sym, ap, ◌∙◌}
use Prim.Native.Nat.{ℕ}
use denote.Struct.Laws as LL
use Rattle.checks.specs.declared.Refusal.TheVariants.{NotSound}
use Rattle.checks.specs.Check.{refusal_at}
use Rattle.std.specs.Prelude.{Ok, Err}
use Rattle.state.specs.declared.Link.{Link}
use Rattle.state.specs.declared.Totals.{Totals}
use Rattle.state.specs.State.{link_of}
use Rattle.state.specs.contracts.Totals as N
use Rattle.state.proofs.Totals.TheLaws as N'
use Rattle.calls.specs.Panel.{panel_gives}
use Rattle.calls.proofs.Panels.{sound_totals}
use Rattle.fields.proofs.totals_of.Goals as goal
use Rattle.fields.proofs.totals_of.Goals.{Start}

-- the link that the fields make up
abbrev whole : Start → List ℕ → List ℕ → Link
whole st tags marks =
    let a = st.args in
    link_of a.tree a.lengths.now tags marks a.start a.held a.totals a.round

pub returns-then-not-is_sound_of : goal.returns-then-not-is_sound_of
returns-then-not-is_sound_of c = λ tags marks.
    let off = c.if-not-is_sound_of.true in
    record {
      sound = c.is_sound_of.result;
      exactly = c.is_sound_of.ensures tags marks;
      answer =
          ap (λ (n : Totals). record { verdict = Err (refusal_at NotSound 0); totals = n }) c.none.ensures
          ∙ sym (ap (λ (b : Bool). panel_gives b (whole (goal.at.returns-then-not-is_sound_of c).Start tags marks)) off);
    }

pub returns : goal.returns
returns c = λ tags marks.
    let on = c.if-not-is_sound_of.false in
    let l = whole (goal.at.returns c).Start tags marks in
    let n = LL.owed N.the_type N'.the_laws c.args.totals _ c.well_formed.1.1.1.0 in
    let right =
    sound_totals l ((c.is_sound_of.ensures tags marks).sound on) (n.0.1.0.1)
    (n.1.0.1.0.1)
    in
    record {
      sound = c.is_sound_of.result;
      exactly = c.is_sound_of.ensures tags marks;
      answer =
          ap (λ (x : Totals). record { verdict = Ok tt; totals = x }) right
          ∙ sym (ap (λ (b : Bool). panel_gives b l) on);
    }

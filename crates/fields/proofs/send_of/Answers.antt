-- `fields::send_of` meets its contract.
use mathlib.Core.Bool.{Bool}
use mathlib.Core.Path.{◌≡◌, ap, subst, ◌∙◌}
use lib.ListN.{length}
use Rattle.checks.specs.Check.{Exactly}
use Rattle.state.specs.declared.Link.{Link}
use Rattle.state.specs.Account.{zip_accounts}
use Rattle.state.specs.State.{link_of}
use Rattle.state.proofs.Shapes.{accounts_shaped}
use Rattle.sound.specs.Sound.{SoundLink}
use Rattle.sound.proofs.Lent.{lent, lent_accounts, lent_is}
use Rattle.calls.specs.Send.{send_of}
use Rattle.calls.proofs.Departures.{send_unsound}
use Rattle.fields.specs.Fields.{GoesIn}
use Rattle.fields.proofs.OverFields.{stays_sends, goes_sends}
use Rattle.fields.proofs.send_of.Goals as goal
use Rattle.fields.proofs.send_of.Goals.{After-is_sound_at, Start}

-- the link that the fields make up
abbrev whole : Start → Link
whole s =
    let a = s.args in
    link_of a.tree a.lengths.now a.tags.now a.marks.now a.start a.held a.totals a.round

-- there are as many accounts as class numbers
many : (st : Start) → length st.args.round.accounts ≡ 64
many st = accounts_shaped st.args.round _ st.well_formed.1.1.1.1.0

-- the numbers that they were taken apart into are the link's
module _ (s : After-is_sound_at) where
  accounts_are : zip_accounts s.balances-balance.result s.residuals-residual.result ≡ (whole (goal.at.After-is_sound_at s).Start).round.accounts
  accounts_are =
      lent_accounts (whole (goal.at.After-is_sound_at s).Start) s.shape_of-shape.result s.balances-balance.result
      s.residuals-residual.result
      s.shape_of-shape.ensures (many (goal.at.After-is_sound_at s).Start) s.balances-balance.ensures
      s.residuals-residual.ensures

  whole_is : lent (whole (goal.at.After-is_sound_at s).Start) s.shape_of-shape.result s.balances-balance.result
      s.residuals-residual.result
      s.shape_of-shape.ensures (many (goal.at.After-is_sound_at s).Start) s.balances-balance.ensures
      s.residuals-residual.ensures
      ≡ whole (goal.at.After-is_sound_at s).Start
  whole_is =
      lent_is (whole (goal.at.After-is_sound_at s).Start) s.shape_of-shape.result s.balances-balance.result
      s.residuals-residual.result
      s.shape_of-shape.ensures (many (goal.at.After-is_sound_at s).Start) s.balances-balance.ensures
      s.residuals-residual.ensures

  decided : Exactly s.is_sound_at.result (SoundLink (whole (goal.at.After-is_sound_at s).Start))
  decided =
      let l = whole (goal.at.After-is_sound_at s).Start in
      subst (λ (x : Link). Exactly s.is_sound_at.result (SoundLink x)) whole_is
      (s.is_sound_at.ensures.by_index l.tags l.marks l.totals.charged)

pub returns-then-not-is_sound_at : goal.returns-then-not-is_sound_at
returns-then-not-is_sound_at c =
    let l = whole (goal.at.returns-then-not-is_sound_at c).Start in
    let off = c.if-not-is_sound_at.true in
    stays_sends l c.is_sound_at.result (decided (goal.at.returns-then-not-is_sound_at c).After-is_sound_at) c.stays.result (ap (λ (b : Bool). send_of b l) off ∙ send_unsound l)
    c.stays.ensures

pub sends-requires : goal.sends-requires
sends-requires c =
    let l = whole (goal.at.sends-requires c).Start in
    let on = c.if-not-is_sound_at.false in (
      record {
        sound = (c.is_sound_at.ensures.by_index l.tags l.marks l.totals.charged).sound on;
        wide = ap length (accounts_are (goal.at.sends-requires c).After-is_sound_at) ∙ many (goal.at.sends-requires c).Start;
      },
      c.is_sound_at.ensures.families on,
    )

pub returns : goal.returns
returns c =
    let l = whole (goal.at.returns c).Start in
    goes_sends l c.is_sound_at.result (decided (goal.at.returns c).After-is_sound_at) c.sends.result c.if-not-is_sound_at.false
    (subst (λ (x : Link). GoesIn x c.sends.result) (whole_is (goal.at.returns c).After-is_sound_at) c.sends.ensures)

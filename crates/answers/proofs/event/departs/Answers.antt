-- `event::departs` meets its contract.
use mathlib.Core.Bool.{Bool, true}
use mathlib.Core.Path.{◌≡◌, refl, subst}
use Rattle.shape.specs.Shape.{tree_in}
use Rattle.state.specs.declared.Link.{Link}
use Rattle.checks.proofs.Laws.{not_true_and_false}
use Rattle.steps.specs.Fields.{link_at}
use Rattle.steps.specs.Rounds.{InFields, nothing_goes}
use Rattle.answers.specs.Steps.{Told}
use Rattle.answers.proofs.Events.{departs_in_place, refused_in_place}
use Rattle.answers.proofs.event.departs.Goals as goal

pub returns-then-not-sound : goal.returns-then-not-sound
returns-then-not-sound c =
    let a = c.args in
    let off = c.if-not-sound.true in record { departs_as = rw c.nothing.ensures (rw off (refused_in_place _ (nothing_goes a.stand) refl)); kept = λ on. absurd (not_true_and_false on off) }

-- a link that was told to be sound
told_fields : (link : Bool → Link) {sound : Bool} → sound ≡ true → Told sound (link sound) → InFields (link true)
told_fields link e told =
    subst (λ (b : Bool). InFields (link b)) e (record { sound = told.exactly.sound e; wide = told.shape.accounts })

pub send-requires : goal.send-requires
send-requires c =
    let on = c.if-not-sound.false in
    let told = c.requires.0 in
    let kin = c.requires.1 on in
    let a = c.args in (
      told_fields (λ (b : Bool). link_at b (tree_in a.shape.now) a.stand a.balance.now a.residual.now a.start.now
          a.held.now a.lengths.now a.tags.now a.marks.now a.packets.now a.bytes.now) on told,
      kin.0,
      kin.1,
    )

pub returns : goal.returns
returns c =
    let on = c.if-not-sound.false in record { departs_as = rw on (departs_in_place _ _ _ refl c.send.ensures.departs); kept = λ is. c.send.ensures.kept }

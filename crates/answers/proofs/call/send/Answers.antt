-- `call::send` meets its contract.
use mathlib.Core.Path.{◌≡◌, refl, sym, ap, subst, ◌∙◌}
use mathlib.Core.Bool.{Bool, false}
use Rattle.checks.specs.Check.{Exactly}
use Rattle.shape.specs.Shape.{tree_in}
use Rattle.state.specs.declared.Link.{Link}
use Rattle.state.specs.Queue.{Shaped}
use Rattle.sound.specs.Sound.{SoundLink}
use Rattle.steps.specs.declared.Stand.{Stand}
use Rattle.steps.specs.Fields.{link_at}
use Rattle.steps.proofs.Rounding.{none_kept}
use Rattle.calls.specs.declared.Departure.{Departure}
use Rattle.calls.specs.Send.{Sends, send_leaves}
use Rattle.calls.proofs.Departures.{send_unsound, sends_by_lem}
use Rattle.answers.proofs.Lent.{lent_shaped}
use Rattle.answers.proofs.Events.{sends_standing}
use Rattle.answers.proofs.call.send.Goals as goal
use Rattle.answers.proofs.call.send.Goals.{After-is_sound_at}

-- the link in the arrays, standing anywhere
abbrev standing : After-is_sound_at → Stand → Link
standing k s =
    let a = k.args in
    link_at false (tree_in a.shape.now) s a.balance.now a.residual.now a.start.now a.held.now a.lengths.now
    a.tags.now a.marks.now a.packets.now a.bytes.now

-- where it stands, as it was read
abbrev from : After-is_sound_at → Stand
from k = k.stand_in-from.result

-- its lists are a link's, and whether it is sound was decided
known_so : (k : After-is_sound_at) → Shaped (standing k (from k))
known_so k =
    lent_shaped _ _ _ (from k) k.told-balance k.told-residual k.told-start k.told-held k.told-lengths k.told-tags k.told-marks k.told-packets k.told-bytes

decided : (k : After-is_sound_at) → Exactly k.is_sound_at.result (SoundLink (standing k (from k)))
decided k = k.is_sound_at.ensures.by_index _ _ (from k).charged

decided_so : (k : After-is_sound_at) (b : Bool) → k.is_sound_at.result ≡ b → Exactly b (SoundLink (standing k (from k)))
decided_so k b e = subst (λ (x : Bool). Exactly x (SoundLink (standing k (from k)))) e (decided k)

pub returns-then-not-is_sound_at : goal.returns-then-not-is_sound_at
returns-then-not-is_sound_at c =
    let off = c.if-not-is_sound_at.true in
    subst (λ (s : Stand). Sends (standing (goal.at.returns-then-not-is_sound_at c).After-is_sound_at s) (send_leaves c.refused.result (standing (goal.at.returns-then-not-is_sound_at c).After-is_sound_at s))) c.stand_in-from.ensures
    (sends_by_lem (standing (goal.at.returns-then-not-is_sound_at c).After-is_sound_at (from (goal.at.returns-then-not-is_sound_at c).After-is_sound_at)) false _ (known_so (goal.at.returns-then-not-is_sound_at c).After-is_sound_at) (decided_so (goal.at.returns-then-not-is_sound_at c).After-is_sound_at false off)
    (ap (λ (d : Departure). send_leaves d (standing (goal.at.returns-then-not-is_sound_at c).After-is_sound_at (from (goal.at.returns-then-not-is_sound_at c).After-is_sound_at))) c.refused.ensures ∙ sym (send_unsound (standing (goal.at.returns-then-not-is_sound_at c).After-is_sound_at (from (goal.at.returns-then-not-is_sound_at c).After-is_sound_at)))))

pub send-went-requires : goal.send-went-requires
send-went-requires c =
    let on = c.if-not-is_sound_at.false in
    let sound = (decided (goal.at.send-went-requires c).After-is_sound_at).sound on in (
      record { sound = sound; wide = (known_so (goal.at.send-went-requires c).After-is_sound_at).accounts },
      c.is_sound_at.ensures.families on,
      rw c.stand_in-from.ensures (none_kept _ _ refl sound.state.fits.tree),
    )

pub returns : goal.returns
returns c =
    let on = c.if-not-is_sound_at.false in
    let w = c.send-went in
    rw c.four_of.ensures
    (sends_standing (standing (goal.at.returns c).After-is_sound_at) w.result _ c.answered.result c.stand_in-from.ensures (known_so (goal.at.returns c).After-is_sound_at) ((decided (goal.at.returns c).After-is_sound_at).sound on)
    c.answered.ensures refl w.ensures)

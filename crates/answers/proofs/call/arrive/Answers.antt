-- `call::arrive` meets its contract.
use mathlib.Core.Path.{refl}
use mathlib.Core.Bool.{false}
use Rattle.checks.specs.Check.{Exactly}
use Rattle.shape.specs.Shape.{tree_in}
use Rattle.state.specs.declared.Link.{Link}
use Rattle.state.specs.Queue.{Shaped}
use Rattle.sound.specs.Sound.{SoundLink}
use Rattle.steps.specs.declared.Stand.{Stand}
use Rattle.steps.specs.Fields.{link_at}
use Rattle.totals.proofs.Sounds.{sound_total}
use Rattle.calls.proofs.Arrivals.{arrives_by}
use Rattle.answers.proofs.Lent.{lent_shaped}
use Rattle.answers.proofs.Events.{arrives_standing}
use Rattle.answers.proofs.call.arrive.Goals as goal
use Rattle.answers.proofs.call.arrive.Goals.{After-is_sound_at-sound}

abbrev standing : After-is_sound_at-sound → Stand → Link
standing k s =
    let a = k.args in
    link_at false (tree_in a.shape.now) s a.balance.now a.residual.now a.start.now a.held.now a.lengths.now
    a.tags.now a.marks.now a.packets.now a.bytes.now

-- where it stands, as it was read
abbrev from : After-is_sound_at-sound → Stand
from k = k.stand_in-at.result

-- its lists are a link's, and whether it is sound was decided
known_so : (k : After-is_sound_at-sound) → Shaped (standing k (from k))
known_so k =
    lent_shaped _ _ _ (from k) k.told-balance k.told-residual k.told-start k.told-held k.told-lengths k.told-tags k.told-marks k.told-packets k.told-bytes

decided : (k : After-is_sound_at-sound) → Exactly k.is_sound_at-sound.result (SoundLink (standing k (from k)))
decided k = k.is_sound_at-sound.ensures.by_index _ _ (from k).charged

pub arrive-requires : goal.arrive-requires
arrive-requires c =
    λ on.
    let sound = (decided (goal.at.arrive-requires c).After-is_sound_at-sound).sound on in
    let shape = known_so (goal.at.arrive-requires c).After-is_sound_at-sound in
    (sound.state.fits.tree, c.is_sound_at-sound.ensures.families on, sound_total (standing (goal.at.arrive-requires c).After-is_sound_at-sound (from (goal.at.arrive-requires c).After-is_sound_at-sound)) sound shape.packets shape.bytes)

pub returns : goal.returns
returns c =
    let a = c.args in
    arrives_standing (standing (goal.at.returns c).After-is_sound_at-sound) (tree_in a.shape.now) a.balance.now a.residual.now a.start.now a.class a.packet
    c.stand_in-at.ensures
    (arrives_by (standing (goal.at.returns c).After-is_sound_at-sound (from (goal.at.returns c).After-is_sound_at-sound)) a.class a.packet c.is_sound_at-sound.result _ (known_so (goal.at.returns c).After-is_sound_at-sound) (decided (goal.at.returns c).After-is_sound_at-sound)
    (c.arrive.ensures (standing (goal.at.returns c).After-is_sound_at-sound (from (goal.at.returns c).After-is_sound_at-sound)) refl (λ on. record { sound = (decided (goal.at.returns c).After-is_sound_at-sound).sound on; wide = (known_so (goal.at.returns c).After-is_sound_at-sound).bytes })))

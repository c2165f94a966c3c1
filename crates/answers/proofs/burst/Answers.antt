-- `answers::burst` meets its contract: whether the record is sound is decided once.
use mathlib.Core.Bool.{Bool, true, false}
use mathlib.Core.List.{List}
use mathlib.Core.Path.{◌≡◌, refl, sym, ap, subst}
use Prim.Native.Nat.{ℕ}
use Rattle.checks.specs.Check.{Exactly}
use Rattle.shape.specs.Shape.{tree_in}
use Rattle.state.specs.declared.Link.{Link}
use Rattle.state.specs.declared.Totals.{Totals}
use Rattle.state.specs.Queue.{Shaped}
use Rattle.sound.specs.Sound.{SoundLink}
use Rattle.steps.specs.declared.Stand.{Stand}
use Rattle.totals.proofs.Sounds.{sound_roomy, sound_total, total_is, light_here}
use Rattle.steps.specs.Fields.{lent_link, link_at}
use Rattle.answers.specs.Burst.{stand_in}
use Rattle.answers.specs.Steps.{Told}
use Rattle.answers.proofs.Lent.{lent_shaped}
use Rattle.answers.proofs.Bursts.{bursts_none, bursts_made, served_at, served_from}
use Rattle.answers.proofs.burst.Goals as goal
use Rattle.answers.proofs.burst.Goals.{After-is_sound_at}

-- the link in the arrays, standing anywhere; where it stands is read off its four numbers
abbrev standing : After-is_sound_at → Stand → Link
standing k s =
    let a = k.args in
    link_at false (tree_in a.shape.now) s a.balance.now a.residual.now a.start.now a.held.now a.lengths.now
    a.tags.now a.marks.now a.packets.now a.bytes.now

-- and told to be sound
abbrev standing-sound : After-is_sound_at → Stand → Link
standing-sound k s =
    let a = k.args in
    link_at true (tree_in a.shape.now) s a.balance.now a.residual.now a.start.now a.held.now a.lengths.now
    a.tags.now a.marks.now a.packets.now a.bytes.now

abbrev four : After-is_sound_at → List ℕ
four k = k.args.stand.now

-- its lists are a link's, and whether it is sound was decided
known_so : (k : After-is_sound_at) (s : Stand) → Shaped (standing k s)
known_so k s =
    lent_shaped _ _ _ s k.told-balance k.told-residual k.told-start k.told-held k.told-lengths k.told-tags k.told-marks k.told-packets k.told-bytes

decided : (k : After-is_sound_at) → Exactly k.is_sound_at.result (SoundLink (standing k k.stand_in-from.result))
decided k = k.is_sound_at.ensures.by_index _ _ k.stand_in-from.result.charged

decided_so : (k : After-is_sound_at) (b : Bool) → k.is_sound_at.result ≡ b
    → Exactly b (SoundLink (standing k k.stand_in-from.result))
decided_so k b e = subst (λ (x : Bool). Exactly x (SoundLink (standing k k.stand_in-from.result))) e (decided k)

exactly_so : (k : After-is_sound_at) (b : Bool) → k.is_sound_at.result ≡ b → Exactly b (SoundLink (standing k (stand_in (four k))))
exactly_so k b e =
    subst (λ (s : Stand). Exactly b (SoundLink (standing k s))) k.stand_in-from.ensures (decided_so k b e)

-- sound, its totals are worked out
as_told : (k : After-is_sound_at) (s : Stand) → SoundLink (standing k s) → standing k s ≡ standing-sound k s
as_told k s sound =
    let a = k.args in
    let t = tree_in a.shape.now in
    let shape = known_so k s in
    ap (λ (x : Totals). lent_link t s.size s.active s.place a.balance.now a.residual.now a.start.now a.held.now
    a.lengths.now a.tags.now a.marks.now x)
    (total_is true t a.packets.now a.bytes.now s.charged (λ _. sound_total (standing k s) sound shape.packets
    shape.bytes))

pub returns-then-not-is_sound_at : goal.returns-then-not-is_sound_at
returns-then-not-is_sound_at c =
    bursts_none (standing (goal.at.returns-then-not-is_sound_at c).After-is_sound_at (stand_in (four (goal.at.returns-then-not-is_sound_at c).After-is_sound_at))) _ _ _ (known_so (goal.at.returns-then-not-is_sound_at c).After-is_sound_at (stand_in (four (goal.at.returns-then-not-is_sound_at c).After-is_sound_at))) c.no_burst.result c.no_burst.ensures
    (exactly_so (goal.at.returns-then-not-is_sound_at c).After-is_sound_at false c.if-not-is_sound_at.true)

pub make_calls-done-requires : goal.make_calls-done-requires
make_calls-done-requires c =
    let on = c.if-not-is_sound_at.false in
    let from = c.stand_in-from in
    let told : Told true (standing (goal.at.make_calls-done-requires c).After-is_sound_at from.result) = record { exactly = decided_so (goal.at.make_calls-done-requires c).After-is_sound_at true on; shape = known_so (goal.at.make_calls-done-requires c).After-is_sound_at from.result } in (
      subst (Told true) (as_told (goal.at.make_calls-done-requires c).After-is_sound_at from.result (told.exactly.sound refl)) told,
      c.is_sound_at.ensures.families on,
      rw from.ensures refl,
    )

pub work_out-requires : goal.work_out-requires
work_out-requires c =
    let on = c.if-not-is_sound_at.false in
    let rules = ((decided (goal.at.work_out-requires c).After-is_sound_at).sound on).state.fits.tree in
    let room = sound_roomy _ (c.make_calls-done.ensures.told.exactly.sound refl) in
    λ _. (rules, c.is_sound_at.ensures.families on, light_here _ rules _ room.packets, light_here _ rules _ room.bytes)

pub returns : goal.returns
returns c =
    let on = c.if-not-is_sound_at.false in
    let a = c.args in
    let done = c.make_calls-done in
    let sound = (exactly_so (goal.at.returns c).After-is_sound_at true on).sound refl in
    let was = (decided_so (goal.at.returns c).After-is_sound_at true on).sound refl in
    rw (c.four_of.ensures, c.work_out.ensures.0, c.work_out.ensures.1)
    (bursts_made (standing (goal.at.returns c).After-is_sound_at (stand_in (four (goal.at.returns c).After-is_sound_at))) a.input.now a.place a.out.now (known_so (goal.at.returns c).After-is_sound_at (stand_in (four (goal.at.returns c).After-is_sound_at))) done.result _
    _
    c.ended.result sound
    (served_at (standing (goal.at.returns c).After-is_sound_at) c.stand_in-from.ensures
    (served_from (sym (as_told (goal.at.returns c).After-is_sound_at c.stand_in-from.result was)) done.ensures)) c.ended.ensures)

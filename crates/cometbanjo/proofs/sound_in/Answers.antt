-- `sound_in` meets its contract.
use mathlib.Core.Bool.{false}
use Rattle.shape.specs.Shape.{tree_in}
use Rattle.steps.specs.declared.Stand.{Stand}
use Rattle.steps.specs.Fields.{link_at}
use Rattle.cometbanjo.proofs.Calling.{decided_standing}
use Rattle.cometbanjo.proofs.sound_in.Goals as goal

pub returns : goal.returns
returns c =
    let a = c.args in
    λ tags marks. decided_standing
    (λ (x : Stand). link_at false (tree_in a.shape.now) x a.balance.now a.residual.now a.start.now a.held.now
    a.lengths.now tags marks a.packets.now a.bytes.now)
    c.stand_in-at.ensures (c.is_sound_at.ensures.by_index tags marks c.stand_in-at.result.charged)

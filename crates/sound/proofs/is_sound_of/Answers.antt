-- `sound::is_sound_of` meets its contract: the numbers that it lends are those of its fields.
use Rattle.state.specs.State.{link_of}
use Rattle.state.proofs.Shapes.{accounts_shaped}
use Rattle.sound.proofs.Lent.{lent_exactly}
use Rattle.sound.proofs.is_sound_of.Goals as goal

pub returns : goal.returns
returns c = λ tags marks.
    let a = c.args in
    let l = link_of a.tree a.lengths.now tags marks a.start a.held a.totals a.round in
    lent_exactly l c.shape_of-shape.result c.balances-balance.result c.residuals-residual.result c.shape_of-shape.ensures
    (accounts_shaped a.round _ c.well_formed.1.1.1.1.0)
    c.balances-balance.ensures c.residuals-residual.ensures c.is_sound_at.result (c.is_sound_at.ensures.by_index tags marks a.totals.charged)

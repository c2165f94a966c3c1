-- `lent_parts::next_turn` meets its contract.
use Rattle.lent_parts.proofs.Turning.{follows}
use Rattle.lent_parts.proofs.next_turn.Goals as goal

pub returns : goal.returns
returns c =
    let a = c.args in
    follows a.line a.turn a.input.now a.out.now c.turn_at.result _ c.lay_at-laid.result (c.lay_at-laid.ensures.laid_at, c.lay_at-laid.ensures.upper_bound)
    c.turn_at.ensures

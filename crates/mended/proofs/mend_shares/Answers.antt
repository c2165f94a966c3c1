-- `mend::mend_shares` meets its contract: 22, or the mended tree.
use Rattle.mended.proofs.mend_shares.Goals as goal

pub returns-in-Ok : goal.returns-in-Ok
returns-in-Ok c =
    rw (← c.mend_weights-new.ensures.0, c.in-Ok.is) c.with_weights.ensures

pub returns-in-Err : goal.returns-in-Err
returns-in-Err c =
    rw (← c.mend_weights-new.ensures.0, c.in-Err.is) c.refuse.ensures

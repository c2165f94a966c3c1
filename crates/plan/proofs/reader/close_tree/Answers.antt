-- `reader::close_tree` meets its contract.
use Rattle.plan.proofs.reader.close_tree.Goals as goal

pub returns-in-Ok : goal.returns-in-Ok
returns-in-Ok c =
    let v = c.in-Ok.is in
    rw (← c.closing-v.ensures, v)

pub returns-in-Err : goal.returns-in-Err
returns-in-Err c =
    rw (← c.closing-v.ensures, c.in-Err.is) c.refuse.ensures

-- `opening::open_root` meets its contract.
use Rattle.opening.proofs.open_root.Goals as goal

pub returns-then-surplus : goal.returns-then-surplus
returns-then-surplus c = rw c.if-surplus.true

pub returns : goal.returns
returns c = rw c.if-surplus.false c.share_out.ensures

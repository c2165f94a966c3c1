-- `mend::with_weights` meets its contract.
use Rattle.mended.proofs.with_weights.Goals as goal

pub returns : goal.returns
returns c = rw (c.requires.1, c.list_changes-changes.ensures)

-- `mend::mend` meets its contract: a refusal of the records, or what their tree gives.
use Rattle.mended.proofs.Answers.{records_read}
use Rattle.mended.proofs.mend.Goals as goal

pub mend_tree-requires : goal.mend_tree-requires
mend_tree-requires c = rw c.read_records-read.ensures (records_read _)

-- `reader::read_records` meets its contract: the records are those that the rules give, for any bytes.
use Prim.Native.Nat.{◌-◌}
use Rattle.plan.proofs.Reading.{ReadTo}
use Rattle.plan.proofs.reader.read_records.Given as goal

abbrev pub invariant-loop-refused : goal.invariant-loop-refused
invariant-loop-refused l = ReadTo l.input l.tree l.place

abbrev pub decreases-loop-refused : goal.decreases-loop-refused
decreases-loop-refused l = 64 - l.tree.count

-- `words::read_number`: what was read and the bytes that are left come to what the whole word comes to.
use Rattle.std.proofs.Common.{◌≡◌, drop}
use Rattle.std.specs.Prelude.{Some}
use Rattle.words.specs.Step.{all_more}
use Rattle.words.proofs.read_number.Given as goal

abbrev pub invariant-loop-byte : goal.invariant-loop-byte
invariant-loop-byte l = all_more (Some l.number) (drop l.byte-index l.text) ≡ all_more (Some 0) l.text

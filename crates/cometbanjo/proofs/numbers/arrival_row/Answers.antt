-- `numbers::arrival_row` meets its contract.
use mathlib.Core.Path.{refl}
use Rattle.cometbanjo.proofs.numbers.arrival_row.Goals as goal

pub returns : goal.returns
returns c = λ after. rw (c.number.ensures, c.number_of-number.ensures, c.place-place.ensures) refl

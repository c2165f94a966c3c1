-- `sets::next` meets its contract: the mask clears the classes below the place, so its trailing zeros are the next class.
use native.Mathlib.Omega.{arith}
use Rattle.sets.proofs.Bits.{trailing_fits}
use Rattle.sets.proofs.Laws.{next_mask, next_end}
use Rattle.sets.proofs.next.Goals as goal

pub returns-then-place-eq-CLASSES : goal.returns-then-place-eq-CLASSES
returns-then-place-eq-CLASSES c = next_end c.args.set c.args.place (omega arith)

pub overflow_cast-result : goal.overflow_cast-result
overflow_cast-result c = record { fits = trailing_fits _ }

pub returns : goal.returns
returns c =
    next_mask c.args.set c.args.place c.ranges.set.fits c.requires

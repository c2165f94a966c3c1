-- `hand` meets its contract.
use mathlib.Core.Path.{refl}
use Rattle.asking.proofs.hand.Goals as goal

pub hand_down-requires : goal.hand_down-requires
hand_down-requires c = rw c.account_of-a.ensures c.requires.2

pub returns : goal.returns
returns c = rw (c.keep.ensures, c.hand_down.ensures, c.account_of-a.ensures)
    refl

-- `cb_totals_fields` meets its contract.
use mathlib.Core.Path.{refl}
use Rattle.cometbanjo.proofs.cb_totals_fields.Goals as goal

pub returns-then-sound_in : goal.returns-then-sound_in
returns-then-sound_in c =
    let s = c.sound_in in
    record { sound = s.result; exactly = s.ensures; answers = rw c.if-sound_in.true refl }

pub returns : goal.returns
returns c =
    let s = c.sound_in in
    record { sound = s.result; exactly = s.ensures; answers = rw (c.number.ensures, c.if-sound_in.false) refl }

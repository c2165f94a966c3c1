-- `fields::sends` meets its contract.
use mathlib.Core.Path.{refl}
use Rattle.steps.proofs.Rounding.{none_kept}
use Rattle.steps.proofs.Departures.{departs_answers}
use Rattle.steps.proofs.Wholes.{departs_wide}
use Rattle.fields.proofs.sends.Goals as goal

pub send-went-requires : goal.send-went-requires
send-went-requires c =
    (c.requires.0, c.requires.1, none_kept _ _ refl c.requires.0.sound.state.fits.tree)

pub zipped-after-requires : goal.zipped-after-requires
zipped-after-requires c =
    let fields = c.requires.0 in
    departs_wide _ fields.wide fields.sound c.send-went.ensures

pub returns : goal.returns
returns c =
    rw c.answered.ensures
    (departs_answers _ c.send-went.result _ refl (rw c.zipped-after.ensures c.send-went.ensures))

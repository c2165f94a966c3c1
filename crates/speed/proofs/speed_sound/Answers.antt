-- `speed::speed_sound` meets its contract.
use Rattle.std.proofs.Common.{subst}
use Rattle.state.specs.declared.Link.{Link}
use Rattle.speed.specs.Timed.{SoundTimes}
use Rattle.speed.proofs.speed_sound.Goals as goal

pub returns : goal.returns
returns c =
    subst (λ (l : Link). SoundTimes l c.args.times c.sound_times.result) c.first_events-all.ensures.link_value
    c.sound_times.ensures

-- `sound::is_sound` meets its contract: a link is made up of its fields.
use Rattle.sound.proofs.is_sound.Goals as goal

pub returns : goal.returns
returns c =
    let link = c.args.link in
    c.is_sound_of.ensures link.tags link.marks

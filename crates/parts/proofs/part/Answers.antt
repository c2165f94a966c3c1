-- `parts::part` meets its contract: whether the record is sound is decided once.
use Rattle.lines.proofs.Laying.{counts}
use Rattle.parts.proofs.part.Goals as goal

pub part_of-requires : goal.part_of-requires
part_of-requires c = c.is_sound.ensures

pub returns : goal.returns
returns c =
    let t = c.part_of.ensures in record { parts = t.decided c.is_sound.result c.is_sound.ensures; prefix_len = counts _ _ t.within }

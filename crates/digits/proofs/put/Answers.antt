-- `digits::put` meets its contract: the part of the buffer from the place on is the text's copy.
use mathlib.Core.Path.{refl, ◌∙◌}
use native.Mathlib.Omega.{arith}
use lib.ListN.{length}
use Rattle.std.proofs.lemmas.Slice.{put_mid-paste}
use Rattle.digits.proofs.Laying.{over_paste}
use Rattle.digits.proofs.put.Goals as goal

pub returns : goal.returns
returns c =
    let s = c.args.text.now in
    let d = c.args.out.now in
    (refl, put_mid-paste _ _ d _ s (length s) c.copy_from_slice.ensures.after (omega arith) refl ∙ over_paste c.args.at s d)

-- `in_place::entries` meets its contract: the link of the locals is the link after the entries before the place.
use mathlib.Core.Bool.{true}
use Prim.Native.Nat.{◌+◌, ◌-◌}
use lib.ListN.{length}
use Rattle.shape.specs.Shape.{tree_in}
use Rattle.state.specs.Queue.{Shaped}
use Rattle.steps.specs.Fields.{link_at}
use Rattle.steps.specs.Rounds.{Kept}
use Rattle.claims.specs.Steps.{checked_by}
use Rattle.claims.proofs.Checking.{Loop, left_of}
use Rattle.claims.proofs.in_place.entries.Given as goal

abbrev pub invariant-loop-kept : goal.invariant-loop-kept
invariant-loop-kept l =
    let t = tree_in l.shape in
    let link = link_at true t l.s.stand l.balance l.residual l.start l.held l.lengths l.tags l.marks l.packets l.bytes in
    Loop l.last l.place l.claims l.part
    (checked_by l.initial.s (link_at true t l.initial.s.stand l.initial.balance l.initial.residual l.initial.start l.initial.held l.initial.lengths l.initial.tags l.initial.marks l.initial.packets l.initial.bytes))
    (checked_by l.s link)
    × Shaped link × Kept t l.s.stand.known l.kept

abbrev pub decreases-loop-kept : goal.decreases-loop-kept
decreases-loop-kept l =
    left_of l.s.more (l.place + length l.part - l.s.place)

-- `speed::opening::open_times` meets its contract.
use Rattle.std.proofs.Common.{◌≡◌, length}
use Rattle.shape.specs.Shape.{tree_in}
use Rattle.steps.specs.Fields.{lent_link}
use Rattle.speed.proofs.Steps.{Opened}
use Rattle.speed.proofs.opening_times.open_times.Given as goal

abbrev pub invariant-loop-n : goal.invariant-loop-n
invariant-loop-n l =
    Opened l.link l._n (lent_link (tree_in l.shape) l.link.round.size l.active l.place l.balance l.residual l.link.start l.link.held l.link.lengths
    l.link.tags l.link.marks l.link.totals)
    × (length l.kept ≡ 64)

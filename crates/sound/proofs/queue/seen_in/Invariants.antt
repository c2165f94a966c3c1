-- `queue::seen_in` meets its contract.
use Rattle.std.proofs.Common.{◌≡◌, ◌+◌, ◌-◌, ◌*◌, ◌≤◌}
use Rattle.tree.specs.Sum.{sum_to}
use Rattle.sound.specs.Steps.{seen_at, most_to, four_over}
use Rattle.sound.proofs.queue.seen_in.Given as goal

abbrev pub invariant-loop-k : goal.invariant-loop-k
invariant-loop-k l =
    (l.k ≤ 8)
    × (l.most ≡ most_to (seen_at l.lengths l.class l.start l.held) l.k)
    × (l.high * 256 + l.low ≡ sum_to (λ j. four_over (seen_at l.lengths l.class l.start l.held) (j - 1)) l.k)
    × (l.low ≤ l.k * 255)
    × (l.high ≤ l.k * 255)

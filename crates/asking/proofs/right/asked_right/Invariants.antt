-- `right::asked_right` meets its contract.
use Prim.Native.Nat.{ℕ, ◌<◌}
use Rattle.published.specs.Second.{means}
use Rattle.asking.specs.Right.{ClassAsked}
use Rattle.asking.proofs.right.asked_right.Given as goal

abbrev pub invariant-loop-i : goal.invariant-loop-i
invariant-loop-i l =
    (k : ℕ) → k < l.i → ClassAsked (means (record { link = l.link; asked = l.asked; quotas = l.quotas })) k

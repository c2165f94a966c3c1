-- `opening::open_accounts` meets its contract.
use Prim.Native.Nat.{◌≤◌}
use mathlib.Core.List.{List}
use Rattle.state.specs.declared.Account.{Account}
use Rattle.rules.specs.Opening.{kind_is}
use Rattle.rules.specs.Steps.{CanOpen}
use Rattle.shape.specs.Shape.{tree_in}
use Rattle.opening.specs.Opens.{OpenedUpTo}
use Rattle.opening.proofs.open_accounts.Given as goal

abbrev pub invariant-loop-i : goal.invariant-loop-i
invariant-loop-i l =
    let t = tree_in l.shape in
    (1 ≤ l.i) × (l.i ≤ 64)
    × ((accounts : List Account) → CanOpen t l.active accounts → OpenedUpTo (kind_is l.surplus) t l.active accounts 1 l.initial.quotas l.initial.balance l.initial.residual
    → OpenedUpTo (kind_is l.surplus) t l.active accounts l.i l.quotas l.balance l.residual)

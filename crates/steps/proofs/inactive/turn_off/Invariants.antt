-- `inactive::turn_off` meets its contract.
use mathlib.Core.Bool.{true}
use mathlib.Core.Path.{◌≡◌}
use Rattle.tree.specs.Class.{is_class}
use Rattle.shape.specs.Shape.{tree_in}
use Rattle.rules.specs.Sending.{turns_off}
use Rattle.rules.specs.Steps.{Fit}
use Rattle.state.specs.Account.{zip_accounts}
use Rattle.steps.specs.Fields.{books_of}
use Rattle.steps.proofs.inactive.turn_off.Given as goal

abbrev pub invariant-loop-leaf : goal.invariant-loop-leaf
invariant-loop-leaf l =
    let t = tree_in l.shape in
    Fit (zip_accounts l.balance l.residual)
    × (is_class t l.leaf ≡ true
    → (is_class t l.i ≡ true) × (turns_off 63 t l.i (books_of l.active l.balance l.residual) ≡ turns_off 63 t l.leaf (books_of l.active-2 l.initial.balance l.initial.residual)))

abbrev pub decreases-loop-leaf : goal.decreases-loop-leaf
decreases-loop-leaf l = l.i

-- Two refusals that `==` finds equal are the same (R4). Demand 1.
use mathlib.Core.Path.{◌≡◌}
use Rattle.std.proofs.Common.{rules, true}
use Rattle.checks.specs.declared.Refusal.{Refusal}
use Rattle.checks.specs.declared.Refusal.TheVariants.{Other}
use Rattle.checks.specs.contracts.RefusalPartialEq.TheImpl as told
use Rattle.checks.proofs.Laws.{one_number}

pub same_if_equal : (a b : Refusal) → (told.ghosts).eq a b ≡ true → a ≡ b
same_if_equal (Other u) (Other v) h = one_number (search rules)
same_if_equal a b h = search rules

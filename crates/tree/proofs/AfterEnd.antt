-- Where the checks after the end record pass, numbers 9, 8 and 7 are broken nowhere. Demand 1.
use mathlib.Core.Path.{◌≡◌}
use Prim.Native.Nat.{ℕ, ◌≤◌}
use Rattle.std.specs.Prelude.{Ok}
use Rattle.checks.specs.Check.{first_broken}
use Rattle.checks.proofs.Laws.{passed_parts, classes_each}
use Rattle.tree.specs.declared.Tree.{Tree}
use Rattle.tree.specs.Rules.{closing_of, closing_checks, ClosingPasses}
use Rattle.tree.proofs.Classes.{class_range, closing_passed}

pub closing_yes : (t : Tree) → first_broken (closing_checks t) ≡ Ok tt → ClosingPasses t
closing_yes t e =
    let h = passed_parts _ _ e in
    let each : (i : ℕ) → 1 ≤ i → i ≤ t.count → first_broken (closing_of t i) ≡ (Ok tt) = classes_each (closing_of t) t.count h.1 in
    record {
      classes = h.0;
      children = λ i is. (closing_passed t i (each i (class_range t i is).0 (class_range t i is).1)).0;
      shares = λ i is. (closing_passed t i (each i (class_range t i is).0 (class_range t i is).1)).1;
    }

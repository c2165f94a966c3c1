-- What the checks of a class record and those after the end record refuse with is one of the 22 that docs/refusals.md tells of (R4).
-- Demand 1.
use Prim.Native.Nat.{ℕ}
use native.Mathlib.Omega.{arith}
use Rattle.checks.proofs.Listed.{EachListed, classes_listed}
use Rattle.tree.specs.declared.Tree.{Tree}
use Rattle.tree.specs.Rules.{class_checks, closing_of, closing_checks}

pub class_checks_listed : (t : Tree) (i place : ℕ) → EachListed (class_checks t i place)
class_checks_listed t i place = ((omega arith, omega arith), ((omega arith, omega arith), ((omega arith, omega arith), tt)))

pub closing_checks_listed : (t : Tree) → EachListed (closing_checks t)
closing_checks_listed t = (
  (omega arith, omega arith),
  classes_listed (closing_of t) t.count (λ i. ((omega arith, omega arith), ((omega arith, omega arith), tt))),
)

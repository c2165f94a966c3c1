-- A plan that is to be mended is refused, if at all, with one of the 22 that docs/refusals.md tells of (R4). Demand 1.
use mathlib.Core.List.{List}
use Prim.Native.Nat.{ℕ, zero, suc}
use native.Mathlib.Omega.{arith}
use Rattle.std.specs.Prelude.{Ok, Err}
use Rattle.checks.specs.Check.{Check, first_broken, class_by_class, Verdict, Listed}
use Rattle.checks.proofs.Listed.{EachListed, first_listed, both_listed, classes_listed}
use Rattle.tree.specs.declared.Tree.{Tree}
use Rattle.plan.specs.declared.PlanRead.{PlanRead}
use Rattle.plan.specs.Reader.{records_of}
use Rattle.plan.proofs.Listed.{records_listed}
use Rattle.mended.specs.Answer.{child_checks, need_checks, downward, mend_checks, answer, mended_by, mend_of}

downward_listed : (f : ℕ → List Check) (n : ℕ) → ((i : ℕ) → EachListed (f i)) → EachListed (downward f n)
unfolding downward
downward_listed f zero h = tt
downward_listed f (suc n) h = both_listed (f (suc n)) (downward f n) (h (suc n)) (downward_listed f n h)

mend_checks_listed : (t : Tree) → EachListed (mend_checks t)
mend_checks_listed t = (
  (omega arith, omega arith),
  both_listed (class_by_class (child_checks t) t.count) (downward (need_checks t) t.count)
      (classes_listed (child_checks t) t.count (λ i. ((omega arith, omega arith), tt)))
      (downward_listed (need_checks t) t.count (λ i. ((omega arith, omega arith), tt))),
)

pub mended_listed : (input : List ℕ) → Listed (mend_of input).verdict
mended_listed input = go (records_of input).verdict (records_listed input)
  where
    read : PlanRead
    read = records_of input

    answered : (v : Verdict) → Listed v → Listed (answer v read.tree read.used).verdict
    answered (Ok _) h = tt
    answered (Err e) h = h

    go : (v : Verdict) → Listed v → Listed (mended_by v read).verdict
    go (Ok _) h = answered (first_broken (mend_checks read.tree)) (first_listed (mend_checks read.tree) (mend_checks_listed read.tree))
    go (Err e) h = h

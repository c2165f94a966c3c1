-- The answer by its checks: what the records give, 9, 8, and what is left to mending.
use mathlib.Core.List.{List}
use mathlib.Core.Bool.{true, false}
use mathlib.Core.Path.{◌≡◌, ◌∙◌}
use Prim.Native.Nat.{ℕ, ◌+◌}
use Rattle.checks.specs.declared.Refusal.TheVariants.{NoClass}
use Rattle.checks.specs.declared.Refusal.{Refusal}
use Rattle.std.specs.Prelude.{Ok, Err}
use Rattle.checks.specs.Check.{first_broken, class_by_class, Verdict, refusal_at}
use Rattle.checks.proofs.Laws.{decides, pass_over, after_passed, refused_before}
use Rattle.tree.specs.declared.Tree.{Tree}
use Rattle.tree.specs.Class.{no_tree}
use Rattle.tree.specs.Rules.{no_class, ClassesPass}
use Rattle.tree.proofs.Growth.{Grown, none_grown, none_pass}
use Rattle.plan.specs.declared.PlanRead.{PlanRead}
use Rattle.plan.specs.Reader.{records_of, passed_over, in_row, passes, tree_of, after, checks_of, outcome}
use Rattle.plan.proofs.Reading.{row_of, tree_passes, tree_grown, records_light}
use Rattle.mended.specs.Answer.{downward, child_checks, need_checks, mend_checks, answer, mended_by}
use Rattle.mended.specs.Steps.{ReadTree}

-- the tree of the records, whatever they say: no class breaks 4, 5 or 6, and what they do not set is 0
pub records_pass : (s : List ℕ) → ClassesPass (records_of s).tree
unfolding records_of passed_over
records_pass s = go (first_broken (checks_of s k))
  where
    k : ℕ
    k = in_row (passes s) 63

    go : (v : Verdict) → ClassesPass (outcome v (tree_of s k) (after s k + 1)).tree
    go (Ok _) = tree_passes s k (row_of (passes s) 63).below
    go (Err _) = none_pass false

pub records_grown : (s : List ℕ) → Grown (records_of s).tree
unfolding records_of passed_over
records_grown s = go (first_broken (checks_of s k))
  where
    k : ℕ
    k = in_row (passes s) 63

    go : (v : Verdict) → Grown (outcome v (tree_of s k) (after s k + 1)).tree
    go (Ok _) = tree_grown s k (row_of (passes s) 63).most
    go (Err _) = none_grown false

pub records_read : (s : List ℕ) → ReadTree (records_of s).tree
records_read s = record { few = (records_light s).few; each = records_pass s; weights = (records_grown s).weights }

-- 9, 8, or on to 22
pub mend_none : (t : Tree) → no_class t ≡ true → first_broken (mend_checks t) ≡ Err (refusal_at NoClass 0)
mend_none t e = decides _ _ e

pub mend_child : (t : Tree) {n : Refusal} {p : ℕ} → no_class t ≡ false → first_broken (class_by_class (child_checks t) t.count) ≡ Err (refusal_at n p)
    → first_broken (mend_checks t) ≡ Err (refusal_at n p)
mend_child t e f = pass_over _ _ e ∙ refused_before (class_by_class (child_checks t) t.count) (downward (need_checks t) t.count) f

pub mend_on : (t : Tree) → no_class t ≡ false → first_broken (class_by_class (child_checks t) t.count) ≡ Ok tt
    → first_broken (mend_checks t) ≡ first_broken (downward (need_checks t) t.count)
mend_on t e f = pass_over _ _ e ∙ after_passed (class_by_class (child_checks t) t.count) (downward (need_checks t) t.count) f

-- records that broke no rule, or one
pub by_passed : (r : PlanRead) → r.verdict ≡ Ok tt
    → mended_by r.verdict r ≡ answer (first_broken (mend_checks r.tree)) r.tree r.used
by_passed r e = rw e

pub by_refused : (r : PlanRead) {n : Refusal} {p : ℕ} → r.verdict ≡ Err (refusal_at n p) → mended_by r.verdict r ≡ answer (Err (refusal_at n p)) no_tree 0
by_refused r e = rw e

-- A run begins as its first window does, and one that goes on begins with the events within its input (R246).
use mathlib.Core.Bool.{true}
use mathlib.Core.List.{List, ◌++◌}
use mathlib.Core.Path.{◌≡◌, refl, ap}
use Prim.Native.Nat.{ℕ, ◌≤◌}
use lib.ListN.{length}
use Rattle.checks.specs.Check.{Verdict}
use Rattle.std.specs.Prelude.{Ok, Err}
use Rattle.checks.proofs.Laws.{not_true_and_false}
use Rattle.plan.specs.declared.PlanRead.{PlanRead}
use Rattle.plan.specs.Reader.{plan_of}
use Rattle.plan.proofs.Longer.{plan_window, plan_inside}
use Rattle.run.specs.Run.{plan_gives, begin_of}

pub begin_window : (window rest : List ℕ) → 514 ≤ length window → begin_of (window ++ rest) ≡ begin_of window
unfolding begin_of
begin_window window rest long = ap (λ (r : PlanRead). plan_gives r.verdict r) (plan_window window rest long)

pub begin_inside : (s : List ℕ) → (begin_of s).more ≡ true → (begin_of s).place ≤ length s
unfolding begin_of
begin_inside s m = go (plan_of s).verdict refl m
  where
    go : (v : Verdict) → (plan_of s).verdict ≡ v → (plan_gives v (plan_of s)).more ≡ true → (plan_gives v (plan_of s)).place ≤ length s
    go (Ok _) e m = plan_inside s e
    go (Err _) e m = absurd (not_true_and_false m refl)

-- Laws of the events of a run: what each uses of the input, and what its step is made of. Demands 1 and 2.
use mathlib.Core.List.{List}
use mathlib.Core.Path.{◌≡◌, sym, ap, subst, ◌∙◌}
use Prim.Native.Nat.{ℕ, ◌≤◌}
use lib.ListN.{length, drop}
use Rattle.checks.specs.Check.{first_broken, input_checks, Verdict}
use Rattle.plan.specs.Event.{used_of, event_at, EventRead}
use Rattle.plan.proofs.EventLaws.{event_fits}
use Rattle.plan.specs.declared.PlanRead.{PlanRead}
use Rattle.plan.specs.Reader.{plan_of}
use Rattle.state.specs.declared.Link.{Link}
use Rattle.run.specs.declared.Step.{Step}
use Rattle.run.specs.Event.{Gives, GoesOn}
use Rattle.run.specs.Run.{plan_gives, begin_of, input_gives, program_begins}

-- a plan's step, by its verdict
pub begin_by : (s : List ℕ) (r : PlanRead) (v : Verdict) → r ≡ plan_of s → r.verdict ≡ v → plan_gives v r ≡ begin_of s
unfolding begin_of
begin_by s r v e is = ap (λ (x : Verdict). plan_gives x r) (sym is) ∙ ap (λ (x : PlanRead). plan_gives x.verdict x) e

-- the first step of a program's run, by the verdict on its input's length
pub first_by : (s : List ℕ) (w v : Verdict) → w ≡ first_broken (input_checks (length s)) → w ≡ v → input_gives v s ≡ program_begins s
unfolding program_begins
first_by s w v e is = ap (λ (x : Verdict). input_gives x s) (sym is ∙ e)

-- an event's step, by the event that was read
pub gives_by : (l : Link) (input : List ℕ) (place : ℕ) (e : EventRead) (r : Step) → event_at (drop place input) place ≡ e → Gives l place e r
    → GoesOn l input place r
gives_by l input place e r same g = subst (λ (x : EventRead). Gives l place x r) (sym same) g

-- what an event uses is within the rest of the input
pub used_fits : (input : List ℕ) (place : ℕ) (e : EventRead) → event_at (drop place input) place ≡ e → used_of e ≤ length (drop place input)
used_fits input place e same = subst (λ (x : EventRead). used_of x ≤ length (drop place input)) same (event_fits (drop place input) place)

-- The lines of a run of the second engine are those of the first engine's on the same input.
use mathlib.Core.Bool.{Bool, true, false}
use mathlib.Core.List.{List, ◌∷◌}
use mathlib.Core.Path.{◌≡◌, refl, sym, ap, subst, ◌∙◌}
use Prim.Native.Nat.{ℕ, ◌+◌, ◌≤◌, ◌<◌}
use native.Mathlib.Omega.{arith}
use lib.ListN.{length, drop, length-drop}
use Rattle.plan.specs.declared.event.Event.TheVariants.{Arrive, SendNext}
use Rattle.std.specs.Prelude.{Ok, Err, Some, None}
use Rattle.checks.specs.Check.{first_broken, input_checks, Verdict}
use Rattle.checks.proofs.Laws.{not_true_and_false, exactly_yes}
use Rattle.plan.specs.Event.{event_at, EventRead}
use Rattle.plan.specs.Reader.{plan_of}
use Rattle.plan.proofs.Numbers.{plan_rules}
use Rattle.tree.specs.declared.Tree.{Tree}
use Rattle.tree.specs.Rules.{PlanRules}
use Rattle.state.specs.declared.Link.{Link}
use Rattle.state.specs.State.{fresh_link}
use Rattle.calls.specs.Run.{Call, arrival, send}
use Rattle.lines.specs.declared.Line.{Line}
use Rattle.run.specs.declared.Step.{Step}
use Rattle.run.specs.Event.{packet_in, Calls, Gives}
use Rattle.run.specs.Run.{plan_gives, begin_of, input_gives, program_lines, program_begins}
use Rattle.run.proofs.Events.{used_fits}
use Rattle.run.proofs.Lines.{following, lines_next, lines_first, next_as}
use Rattle.published.specs.declared.Second.{Second}
use Rattle.published.specs.Second.{stands_for, SoundSecond, ShapedSecond}
use Rattle.published.specs.Contract.{MadeSecond, made_second}
use Rattle.published.proofs.Contracts.{meets_first, meets_shaped, second_one_answer}
use Rattle.published.proofs.AnyRun.{fresh_sound_second, fresh_shaped_second, fresh_stands}
use Rattle.published.proofs.OneSend.{stands_link_sound}
use Rattle.published_run.specs.declared.SecondStep.{SecondStep}
use Rattle.published_run.specs.Steps.{second_of_step, second_begins, second_by, CallsSecond, GivesSecond, GoesOnSecond, step_first}
use Rattle.published_run.specs.Steps.{Prints, ended, printed}

-- ---- one step

module _ (l : Second) (place : ℕ) where
  -- a call of the second engine is the first engine's on the link that it stands for
  calls_first : (call : Call) (to : ℕ) (r : SecondStep) → SoundSecond l → CallsSecond l call to r
      → Calls (stands_for l) call to (step_first r)
  calls_first call to r sound g = record {
    answer = g.answer;
    after = stands_for g.after;
    meets = meets_first l (made_second call g.answer g.after) sound g.meets;
    step = ap step_first g.step;
  }

  gives_first : (e : EventRead) (r : SecondStep) → SoundSecond l → GivesSecond l place e r → Gives (stands_for l) place e (step_first r)
  gives_first (Ok None) r sound g = ap step_first g
  gives_first (Ok (Some (Arrive a))) r sound g = calls_first (arrival a.class (packet_in a)) (place + 8) r sound g
  gives_first (Ok (Some SendNext)) r sound g = calls_first send (place + 1) r sound g
  gives_first (Err _) r sound g = ap step_first g

  gives_keeps : (e : EventRead) (r : SecondStep) → SoundSecond l → GivesSecond l place e r → SoundSecond r.link
  gives_keeps (Ok None) r sound g = subst (λ (s : SecondStep). SoundSecond s.link) (sym g) sound
  gives_keeps (Ok (Some (Arrive a))) r sound g = subst (λ (s : SecondStep). SoundSecond s.link) (sym g.step) (g.meets.keeps sound)
  gives_keeps (Ok (Some SendNext)) r sound g = subst (λ (s : SecondStep). SoundSecond s.link) (sym g.step) (g.meets.keeps sound)
  gives_keeps (Err _) r sound g = subst (λ (s : SecondStep). SoundSecond s.link) (sym g) sound

  gives_shaped : (e : EventRead) (r : SecondStep) → SoundSecond l → ShapedSecond l → GivesSecond l place e r → ShapedSecond r.link
  gives_shaped (Ok None) r sound shape g = subst (λ (s : SecondStep). ShapedSecond s.link) (sym g) shape
  gives_shaped (Ok (Some (Arrive a))) r sound shape g =
      subst (λ (s : SecondStep). ShapedSecond s.link) (sym g.step) (meets_shaped l _ sound g.meets)
  gives_shaped (Ok (Some SendNext)) r sound shape g =
      subst (λ (s : SecondStep). ShapedSecond s.link) (sym g.step) (meets_shaped l _ sound g.meets)
  gives_shaped (Err _) r sound shape g = subst (λ (s : SecondStep). ShapedSecond s.link) (sym g) shape

  -- two answers are one
  calls_one : (call : Call) (to : ℕ) (r r' : SecondStep) → CallsSecond l call to r → CallsSecond l call to r' → r ≡ r'
  calls_one call to r r' x y =
      x.step
      ∙ ap (λ (m : MadeSecond). second_by m to) (second_one_answer l call _ _ refl refl x.meets y.meets)
      ∙ sym y.step

  gives_one : (e : EventRead) (r r' : SecondStep) → GivesSecond l place e r → GivesSecond l place e r' → r ≡ r'
  gives_one (Ok None) r r' x y = x ∙ sym y
  gives_one (Ok (Some (Arrive a))) r r' x y = calls_one (arrival a.class (packet_in a)) (place + 8) r r' x y
  gives_one (Ok (Some SendNext)) r r' x y = calls_one send (place + 1) r r' x y
  gives_one (Err _) r r' x y = x ∙ sym y

  -- where the run goes on, the place has moved on, and is within the input
  gives_on : (input : List ℕ) (e : EventRead) (r : SecondStep) → event_at (drop place input) place ≡ e → GivesSecond l place e r
      → r.more ≡ true → (place < r.place) × (r.place ≤ length input)
  gives_on input (Ok None) r same g m = absurd (not_true_and_false m (ap (λ (s : SecondStep). s.more) g))
  gives_on input (Ok (Some (Arrive a))) r same g m =
      subst (λ (s : SecondStep). (place < s.place) × (s.place ≤ length input)) (sym g.step)
      (omega arith, omega (arith, used_fits input place (Ok (Some (Arrive a))) same, length-drop place input))
  gives_on input (Ok (Some SendNext)) r same g m =
      subst (λ (s : SecondStep). (place < s.place) × (s.place ≤ length input)) (sym g.step)
      (omega arith, omega (arith, used_fits input place (Ok (Some SendNext)) same, length-drop place input))
  gives_on input (Err _) r same g m = absurd (not_true_and_false m (ap (λ (s : SecondStep). s.more) g))

  pub second_on : (input : List ℕ) (r : SecondStep) → GoesOnSecond l input place r → r.more ≡ true
      → (place < r.place) × (r.place ≤ length input)
  second_on input r g m = gives_on input (event_at (drop place input) place) r refl g m

  pub second_next_one_answer : (input : List ℕ) (r r' : SecondStep) → GoesOnSecond l input place r → GoesOnSecond l input place r' → r ≡ r'
  second_next_one_answer input r r' x y = gives_one (event_at (drop place input) place) r r' x y

-- ---- the first step

-- a run that goes on begins with a sound link, which stands for the first engine's
record Begins (s : Step) : Type 0 where
  sound : SoundSecond (second_of_step s).link
  shape : ShapedSecond (second_of_step s).link
  stands : stands_for (second_of_step s).link ≡ s.link

fresh_begins : (t : Tree) → PlanRules t → (line : Line) (place : ℕ)
    → Begins (record { line = line; more = true; link = fresh_link t; place = place })
fresh_begins t rules line place =
    record { sound = fresh_sound_second t rules; shape = fresh_shaped_second t rules; stands = fresh_stands t rules }

plan_begins : (input : List ℕ) (v : Verdict) → (plan_of input).verdict ≡ v → (plan_gives v (plan_of input)).more ≡ true
    → Begins (plan_gives v (plan_of input))
plan_begins input (Ok _) e m = fresh_begins (plan_of input).tree (plan_rules input (plan_of input) refl e) _ _
plan_begins input (Err _) e m = absurd (not_true_and_false m refl)

input_begins : (input : List ℕ) (v : Verdict) → (input_gives v input).more ≡ true → Begins (input_gives v input)
unfolding begin_of
input_begins input (Ok _) m = plan_begins input (plan_of input).verdict refl m
input_begins input (Err _) m = absurd (not_true_and_false m refl)

begins : (input : List ℕ) → (program_begins input).more ≡ true → Begins (program_begins input)
unfolding program_begins
begins input m = input_begins input (first_broken (input_checks (length input))) m

-- ---- the whole

-- what is printed after a step of a sound link is what the first engine prints after that step
prints_first : (input : List ℕ) (s : SecondStep) (lines : List Line) → (s.more ≡ true → SoundSecond s.link)
    → (s.more ≡ true → ShapedSecond s.link) → Prints input s lines
    → lines ≡ following (stands_for s.link) input s.place s.more
unfolding following
prints_first input s lines sound shape (ended t m) = sym (ap (following (stands_for t.link) input t.place) m)
prints_first input s lines sound shape (printed t next rest m g p) =
    let l = t.link in
    let e = event_at (drop t.place input) t.place in
    let first = gives_first l t.place e next (sound m) g in
    let same = next_as (stands_for l) input t.place true (step_first next) (exactly_yes (stands_link_sound l (sound m) (shape m))) first in
    let after =
    prints_first input next rest (λ on. gives_keeps l t.place e next (sound m) g)
    (λ on. gives_shaped l t.place e next (sound m) (shape m) g) p
    in
    ap (λ (more : List Line). next.line ∷ more) after
    ∙ ap (λ (r : Step). r.line ∷ following r.link input r.place r.more) same
    ∙ sym (lines_next (stands_for l) input t.place)
    ∙ sym (ap (following (stands_for l) input t.place) m)

-- the same lines for the same input (R338)
pub same_lines : (input : List ℕ) (lines : List Line) → Prints input (second_begins input) lines
    → (second_begins input).line ∷ lines ≡ program_lines input
unfolding following
same_lines input lines p =
    ap (λ (rest : List Line). (program_begins input).line ∷ rest)
    (prints_first input (second_begins input) lines (λ m. (begins input m).sound) (λ m. (begins input m).shape) p ∙ go
    (program_begins input).more refl)
    ∙ sym (lines_first input)
  where
    go : (b : Bool) → (program_begins input).more ≡ b
        → following (stands_for (second_begins input).link) input (program_begins input).place (program_begins input).more
        ≡ following (program_begins input).link input (program_begins input).place (program_begins input).more
    go true m = ap (λ (l : Link). following l input (program_begins input).place (program_begins input).more) (begins input m).stands
    go false m =
        none (stands_for (second_begins input).link) m ∙ sym (none (program_begins input).link m)
      where
        none : (l : Link) → (program_begins input).more ≡ false
            → following l input (program_begins input).place (program_begins input).more ≡ following l input
            (program_begins input).place false
        none l m = ap (following l input (program_begins input).place) m

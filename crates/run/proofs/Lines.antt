-- Laws of a run's lines: each step gives the next line, there are steps enough, and two answers are one. Demands 1 and 2.
use mathlib.Core.Bool.{Bool, true, false, cond}
use mathlib.Core.List.{List, [], ◌∷◌, ◌++◌, map}
use mathlib.Core.Path.{◌≡◌, refl, sym, ap, subst, ◌∙◌}
use Prim.Native.Nat.{ℕ, zero, suc, ◌+◌, ◌-◌, ◌≤◌, ◌<◌}
use native.Mathlib.Omega.{arith}
use lib.ListN.{length, drop, length-drop}
use Rattle.plan.specs.declared.event.Event.TheVariants.{Arrive, SendNext}
use Rattle.std.specs.Prelude.{Ok, Err, Some, None}
use Rattle.checks.specs.Check.{first_broken, input_checks, Exactly, Verdict}
use Rattle.checks.proofs.Laws.{not_true_and_false, exactly_yes}
use Rattle.plan.specs.Reader.{plan_of}
use Rattle.plan.proofs.Numbers.{plan_rules}
use Rattle.plan.specs.Event.{event_at, EventRead}
use Rattle.state.specs.declared.Link.{Link}
use Rattle.sound.specs.Sound.{SoundLink}
use Rattle.calls.specs.Arrival.{arrival_of}
use Rattle.calls.specs.Send.{send_of}
use Rattle.calls.specs.Run.{Call, arrival, send, Made, made, link_left, makes, run_of, made_in, last_link}
use Rattle.calls.proofs.FreshLinks.{fresh_sound}
use Rattle.calls.proofs.Runs.{meets_by, meets_keeps, made_next}
use Rattle.lines.specs.declared.Line.{Line}
use Rattle.run.specs.declared.Step.{Step}
use Rattle.run.specs.Event.{packet_in, call_line, last_line, step_by, event_gives, step_of, Calls, Gives, GoesOn}
use Rattle.run.specs.Run.{plan_gives, begin_of, lines_of, lines_after, program_lines, input_gives, program_begins}
use Rattle.run.specs.Run.{EventsRead, no_call, call_first, event_first, events_from, event_lines}
use Rattle.run.proofs.Events.{used_fits}

-- where the run goes on, the place has moved on, and is within the input
module _ (l : Link) (input : List ℕ) (place : ℕ) where
  on_by : (sound : Bool) (e : EventRead) → event_at (drop place input) place ≡ e → (event_gives sound l place e).more ≡ true
      → (place < (event_gives sound l place e).place) × ((event_gives sound l place e).place ≤ length input)
  on_by sound (Ok None) same m = absurd (not_true_and_false m refl)
  on_by sound (Ok (Some (Arrive a))) same m =
      (omega arith, omega (arith, used_fits input place (Ok (Some (Arrive a))) same, length-drop place input))
  on_by sound (Ok (Some SendNext)) same m = (omega arith, omega (arith, used_fits input place (Ok (Some SendNext)) same, length-drop place input))
  on_by sound (Err _) same m = absurd (not_true_and_false m refl)

  pub step_on : (sound : Bool) → (step_of sound l input place).more ≡ true
      → (place < (step_of sound l input place).place) × ((step_of sound l input place).place ≤ length input)
  unfolding step_of
  step_on sound m = on_by sound (event_at (drop place input) place) refl m

  -- an event gives what the definition says, and on a sound link a sound link
  calls_as : (sound : Bool) (call : Call) (to : ℕ) (r : Step) → Exactly sound (SoundLink l) → Calls l call to r
      → r ≡ step_by (makes sound l call) to
  calls_as sound call to r x g = g.step ∙ ap (λ (m : Made). step_by m to) (meets_by l (made call g.answer g.after) sound x g.meets)

  calls_keeps : (call : Call) (to : ℕ) (r : Step) → SoundLink l → Calls l call to r → SoundLink r.link
  calls_keeps call to r sound g =
      subst (λ (s : Step). SoundLink s.link) (sym g.step) (meets_keeps l (made call g.answer g.after) sound g.meets)

  gives_as : (sound : Bool) (e : EventRead) (r : Step) → Exactly sound (SoundLink l) → Gives l place e r → r ≡ event_gives sound l place e
  gives_as sound (Ok None) r x g = g
  gives_as sound (Ok (Some (Arrive a))) r x g = calls_as sound (arrival a.class (packet_in a)) (place + 8) r x g
  gives_as sound (Ok (Some SendNext)) r x g = calls_as sound send (place + 1) r x g
  gives_as sound (Err _) r x g = g

  gives_keeps : (e : EventRead) (r : Step) → SoundLink l → Gives l place e r → SoundLink r.link
  gives_keeps (Ok None) r sound g = subst (λ (s : Step). SoundLink s.link) (sym g) sound
  gives_keeps (Ok (Some (Arrive a))) r sound g = calls_keeps (arrival a.class (packet_in a)) (place + 8) r sound g
  gives_keeps (Ok (Some SendNext)) r sound g = calls_keeps send (place + 1) r sound g
  gives_keeps (Err _) r sound g = subst (λ (s : Step). SoundLink s.link) (sym g) sound

  gives_on : (e : EventRead) (r : Step) → event_at (drop place input) place ≡ e → Gives l place e r → r.more ≡ true → (place < r.place)
      × (r.place ≤ length input)
  gives_on (Ok None) r same g m = absurd (not_true_and_false m (ap (λ (s : Step). s.more) g))
  gives_on (Ok (Some (Arrive a))) r same g m =
      subst (λ (s : Step). (place < s.place) × (s.place ≤ length input)) (sym g.step) (on_by true (Ok (Some (Arrive a))) same refl)
  gives_on (Ok (Some SendNext)) r same g m =
      subst (λ (s : Step). (place < s.place) × (s.place ≤ length input)) (sym g.step) (on_by true (Ok (Some SendNext)) same refl)
  gives_on (Err _) r same g m = absurd (not_true_and_false m (ap (λ (s : Step). s.more) g))

  -- two answers are one: the contract of the call has the flag that decides
  gives_one : (e : EventRead) (r r' : Step) → Gives l place e r → Gives l place e r' → r ≡ r'
  gives_one (Ok None) r r' x y = x ∙ sym y
  gives_one (Ok (Some (Arrive a))) r r' x y =
      let m = x.meets in
      gives_as m.sound (Ok (Some (Arrive a))) r m.exactly x ∙ sym (gives_as m.sound (Ok (Some (Arrive a))) r' m.exactly y)
  gives_one (Ok (Some SendNext)) r r' x y =
      let m = x.meets in
      gives_as m.sound (Ok (Some SendNext)) r m.exactly x ∙ sym (gives_as m.sound (Ok (Some SendNext)) r' m.exactly y)
  gives_one (Err _) r r' x y = x ∙ sym y

  pub next_as : (sound : Bool) (r : Step) → Exactly sound (SoundLink l) → GoesOn l input place r → r ≡ step_of sound l input place
  unfolding step_of
  next_as sound r x g = gives_as sound (event_at (drop place input) place) r x g

  -- an event on a record that is not sound leaves it
  gives_unsound : (e : EventRead) → (event_gives false l place e).link ≡ l
  unfolding arrival_of send_of first_broken
  gives_unsound (Ok None) = refl
  gives_unsound (Ok (Some (Arrive a))) = refl
  gives_unsound (Ok (Some SendNext)) = refl
  gives_unsound (Err _) = refl

  step_unsound : (step_of false l input place).link ≡ l
  unfolding step_of
  step_unsound = gives_unsound (event_at (drop place input) place)

  pub next_keeps : (r : Step) → SoundLink l → GoesOn l input place r → SoundLink r.link
  next_keeps r sound g = gives_keeps (event_at (drop place input) place) r sound g

  -- and so it is sound after an event exactly when it was sound before
  pub next_exactly : (sound : Bool) (r : Step) → Exactly sound (SoundLink l) → GoesOn l input place r → Exactly sound (SoundLink r.link)
  next_exactly true r x g = exactly_yes (next_keeps r (x.sound refl) g)
  next_exactly false r x g =
      subst (λ (after : Link). Exactly false (SoundLink after)) (sym (ap (λ (s : Step). s.link) (next_as false r x g) ∙ step_unsound)) x

  pub next_on : (r : Step) → GoesOn l input place r → r.more ≡ true → (place < r.place) × (r.place ≤ length input)
  next_on r g m = gives_on (event_at (drop place input) place) r refl g m

  pub next_one_answer : (r r' : Step) → GoesOn l input place r → GoesOn l input place r' → r ≡ r'
  next_one_answer r r' x y = gives_one (event_at (drop place input) place) r r' x y

pub begin_one_answer : (input : List ℕ) (r r' : Step) → r ≡ begin_of input → r' ≡ begin_of input → r ≡ r'
begin_one_answer input r r' x y = x ∙ sym y

-- a run that goes on begins with a sound link
pub begin_sound : (input : List ℕ) → (begin_of input).more ≡ true → SoundLink (begin_of input).link
unfolding begin_of
begin_sound input m = go (plan_of input).verdict refl m
  where
    go : (v : Verdict) → (plan_of input).verdict ≡ v → (plan_gives v (plan_of input)).more ≡ true → SoundLink (plan_gives v (plan_of input)).link
    go (Ok _) e m = fresh_sound (plan_of input).tree (plan_rules input (plan_of input) refl e)
    go (Err _) e m = absurd (not_true_and_false m refl)

-- ---- the lines, without a count of steps

-- one event more
events_suc : (n : ℕ) (input : List ℕ) (place : ℕ)
    → events_from (suc n) input place ≡ event_first (event_at (drop place input) place) (λ used. events_from n input (place + used))
unfolding events_from
events_suc n input place = refl

-- what is read after an event matters only where it is a call, from a place within the input
first_same : (input : List ℕ) (place : ℕ) (e : EventRead) (x y : ℕ → EventsRead) → event_at (drop place input) place ≡ e
    → ((used : ℕ) → 1 ≤ used → place + used ≤ length input → x used ≡ y used) → event_first e x ≡ event_first e y
first_same input place (Ok None) x y same later = refl
first_same input place (Ok (Some (Arrive a))) x y same later =
    ap (call_first (arrival a.class (packet_in a)))
    (later 8 (omega arith) (omega (arith, used_fits input place (Ok (Some (Arrive a))) same, length-drop place input)))
first_same input place (Ok (Some SendNext)) x y same later =
    ap (call_first send) (later 1 (omega arith) (omega (arith, used_fits input place (Ok (Some SendNext)) same, length-drop place input)))
first_same input place (Err _) x y same later = refl

-- enough events are enough
events_enough : (n m : ℕ) (input : List ℕ) (place : ℕ) → place ≤ length input → length input < place + n → length input < place + m
    → events_from n input place ≡ events_from m input place
events_enough zero m input place on a b = absurd (omega arith)
events_enough (suc n) zero input place on a b = absurd (omega arith)
events_enough (suc n) (suc m) input place on a b =
    events_suc n input place
    ∙ first_same input place (event_at (drop place input) place) _ _ refl
    (λ used some fits. events_enough n m input (place + used) fits (omega arith) (omega arith))
    ∙ sym (events_suc m input place)

-- the lines of the events from a place on
pub lines_from : Link → List ℕ → ℕ → List Line
lines_from l input place = event_lines l (events_from (suc (length input)) input place)

-- the line of a first call, and those from the link that it left
lines_call : (l : Link) (call : Call) (rest : EventsRead)
    → event_lines l (call_first call rest) ≡ call_line (makes true l call) ∷ event_lines (link_left (makes true l call)) rest
unfolding event_lines last_link
lines_call l call rest =
    ap (λ (run : List Made). map call_line run ++ (last_line rest.last (last_link l run) ∷ [])) (made_next true l call rest.calls)

lines_last : (l : Link) (e : EventRead) → event_lines l (no_call e) ≡ last_line e l ∷ []
unfolding event_lines run_of made_in last_link
lines_last l e = refl

-- what follows where the run goes on or not
unfoldable pub following : Link → List ℕ → ℕ → Bool → List Line
following l input place true = lines_from l input place
following l input place false = []

pub lines_next : (l : Link) (input : List ℕ) (place : ℕ)
    → lines_from l input place ≡ (step_of true l input place).line ∷ following (step_of true l input place).link input
    (step_of true l input place).place (step_of true l input place).more
unfolding step_of lines_from following
lines_next l input place =
    ap (event_lines l) (events_suc (length input) input place ∙ first_same input place (event_at (drop place input) place) _ _ refl left)
    ∙ go (event_at (drop place input) place)
  where
    left : (used : ℕ) → 1 ≤ used → place + used ≤ length input
        → events_from (length input) input (place + used) ≡ events_from (suc (length input)) input (place + used)
    left used some fits = events_enough (length input) (suc (length input)) input (place + used) fits (omega arith) (omega arith)

    rest_of : Step → List Line
    rest_of s = following s.link input s.place s.more

    go : (e : EventRead) → event_lines l (event_first e (λ used. events_from (suc (length input)) input (place + used)))
        ≡ (event_gives true l place e).line ∷ rest_of (event_gives true l place e)
    go (Ok None) = lines_last l (Ok None)
    go (Ok (Some (Arrive a))) = lines_call l (arrival a.class (packet_in a)) (events_from (suc (length input)) input (place + 8))
    go (Ok (Some SendNext)) = lines_call l send (events_from (suc (length input)) input (place + 1))
    go (Err e) = lines_last l (Err e)

pub lines_begin : (input : List ℕ) → lines_of input ≡ (begin_of input).line ∷ following (begin_of input).link input (begin_of input).place
    (begin_of input).more
unfolding lines_of lines_from following
lines_begin input = ap (λ (rest : List Line). (begin_of input).line ∷ rest) (go (begin_of input).more)
  where
    go : (b : Bool)
        → ◌≡◌ {A = List Line}
        (elim b [ true ↦ event_lines (begin_of input).link (events_from (suc (length input)) input (begin_of input).place) | false ↦ [] ])
        (following (begin_of input).link input (begin_of input).place b)
    go true = refl
    go false = refl

-- what a program prints is the line of its first step and, where the run goes on, the lines from there
pub lines_first : (input : List ℕ) → program_lines input ≡ (program_begins input).line ∷ following (program_begins input).link input
    (program_begins input).place
    (program_begins input).more
unfolding program_lines program_begins following
lines_first input = go (first_broken (input_checks (length input)))
  where
    go : (v : Verdict) → lines_after v input ≡ (input_gives v input).line ∷ following (input_gives v input).link input
        (input_gives v input).place (input_gives v input).more
    go (Ok _) = lines_begin input
    go (Err _) = refl

-- it goes on with a sound link
pub first_sound : (input : List ℕ) → (program_begins input).more ≡ true → SoundLink (program_begins input).link
unfolding program_begins
first_sound input m = go (first_broken (input_checks (length input))) m
  where
    go : (v : Verdict) → (input_gives v input).more ≡ true → SoundLink (input_gives v input).link
    go (Ok _) m = begin_sound input m
    go (Err _) m = absurd (not_true_and_false m refl)

-- how many steps a run has left at most: a loop over them, or over parts, ends
pub steps_left : List ℕ → Bool → ℕ → ℕ
steps_left input more place = cond more (suc (length input - place)) 0

pub steps_less : (input : List ℕ) (more : Bool) (place : ℕ) (was : Bool) (from : ℕ) → was ≡ true
    → (more ≡ true → (from < place) × (place ≤ length input))
    → steps_left input more place < steps_left input was from
unfolding steps_left
steps_less input more place was from m on = rw m (go more refl)
  where
    go : (b : Bool) → more ≡ b → cond b (suc (length input - place)) 0 < suc (length input - from)
    go true e = let w = on e in omega (arith, w.0, w.1)
    go false e = omega arith

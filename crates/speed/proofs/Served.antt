-- Laws of the timed loops: a run goes on event by event, all its answers in one number; tags have no say in soundness.
use Rattle.plan.specs.declared.event.Event.{Event}
use Rattle.plan.specs.declared.event.Event.TheVariants.{Arrive, SendNext}
use Rattle.std.specs.Prelude.{Ok, Err, Some, None}
use Rattle.std.proofs.Common.{◌≡◌, ℕ, zero, suc, ◌+◌, ◌<◌, Bool, true, false, cond, List, [], ◌∷◌, ◌++◌, length, drop, sym, refl, ap, ◌∙◌, subst, arith}
use Rattle.checks.specs.Check.{Exactly}
use Rattle.checks.proofs.Laws.{exactly_yes}
use Rattle.plan.specs.Event.{event_at, EventRead}
use Rattle.state.specs.declared.Link.{Link}
use Rattle.sound.specs.Sound.{SoundLink}
use Rattle.sound.proofs.AnyMarks.{marks_as, any_marks_sound}
use Rattle.calls.specs.Run.{Call, Made, call_of, link_left, makes, run_of, made_in, last_link, Meets}
use Rattle.calls.proofs.Runs.{meets_by, meets_keeps, made_next}
use Rattle.run.specs.declared.Step.{Step}
use Rattle.run.specs.Run.{begin_of, events_from, event_first}
use Rattle.run.proofs.Lines.{begin_sound}
use Rattle.parts.specs.declared.PartRun.{PartRun}
use Rattle.parts.specs.Part.{part_of, Parts}
use Rattle.speed.specs.declared.TimedEvent.{TimedEvent}
use Rattle.speed.specs.Timed.{timed_run, heard, tally_of, timed_by, timed_at, call_in, calls_in, calls_left}
use Rattle.speed.specs.Timed.{timed_text, LaysText}

-- ---- events

-- the event that was read at the place
pub timed_by_lem : (n : ℕ) (input : List ℕ) (place : ℕ) (e : EventRead) → event_at (drop place input) place ≡ e
    → timed_by n place e ≡ timed_at (suc n) input place
unfolding timed_at
timed_by_lem n input place e same = ap (timed_by n place) (sym same)

-- it and those after it are the first events of the input from the place on
pub timed_calls : (n : ℕ) (input : List ℕ) (place : ℕ) → calls_in input (timed_at n input place) ≡ (events_from n input place).calls
unfolding timed_at calls_in events_from
timed_calls zero input place = refl
timed_calls (suc n) input place = go (event_at (drop place input) place)
  where
    go : (e : EventRead) → calls_in input (timed_by n place e) ≡ (event_first e (λ used. events_from n input (place + used))).calls
    go (Ok None) = refl
    go (Ok (Some (Arrive a))) = refl
    go (Ok (Some SendNext)) = refl
    go (Err _) = refl

-- a call is one of those asked for
pub timed_less : (n : ℕ) (input : List ℕ) (place : ℕ) → calls_left (timed_at n input place) < suc n
unfolding timed_at
timed_less zero input place = omega arith
timed_less (suc n) input place = go (event_at (drop place input) place)
  where
    go : (e : EventRead) → calls_left (timed_by n place e) < suc (suc n)
    go (Ok None) = omega arith
    go (Ok (Some x)) = omega arith
    go (Err _) = omega arith

-- ---- a run, event by event

-- the calls from an event on, made from a link
abbrev pub made_from : List ℕ → Link → TimedEvent → List Made
made_from input l e = made_in (run_of true l (calls_in input e))

made_none : (input : List ℕ) (l : Link) (e : TimedEvent) → e.call ≡ None → made_from input l e ≡ []
unfolding calls_in run_of made_in
made_none input l e off = rw off refl

calls_first : (input : List ℕ) (e next : TimedEvent) (x : Event) → e.call ≡ Some x → next ≡ timed_at e.more input e.place
    → calls_in input e ≡ call_in x ∷ calls_in input next
unfolding calls_in
calls_first input e next x on after =
    rw on
    (ap (λ (calls : List Call). call_in x ∷ calls) (sym (timed_calls e.more input e.place) ∙ ap (calls_in input) (sym after)))

made_first_lem : (input : List ℕ) (l : Link) (e next : TimedEvent) (m : Made) (x : Event) → e.call ≡ Some x → call_of m ≡ call_in x → SoundLink l → Meets l m
    → next ≡ timed_at e.more input e.place → made_from input l e ≡ m ∷ made_from input (link_left m) next
made_first_lem input l e next m x on call sound meets after =
    let is : m ≡ makes true l (call_in x) = meets_by l m true (exactly_yes sound) meets ∙ ap (makes true l) call in
    ap (λ (calls : List Call). made_in (run_of true l calls)) (calls_first input e next x on after)
    ∙ made_next true l (call_in x) (calls_in input next)
    ∙ ap (λ (y : Made). y ∷ made_from input (link_left y) next) (sym is)

-- a loop that has come to a link, an event and a number: what is left from here is what was to do from the start
pub record Served (input : List ℕ) (first : Link) (start : TimedEvent) (l : Link) (e : TimedEvent) (tally : ℕ) : Type 0 where
  pub sound : SoundLink l
  pub answers : tally_of 0 (made_from input first start) ≡ tally_of tally (made_from input l e)
  pub last : last_link first (made_from input first start) ≡ last_link l (made_from input l e)

module _ (input : List ℕ) (first : Link) (start : TimedEvent) where
  pub served_starts : SoundLink first → Served input first start first start 0
  served_starts sound = record { sound = sound; answers = refl; last = refl }

  -- a call is made, and the next event is read
  pub served_on : (l : Link) (e next : TimedEvent) (tally tally' : ℕ) (m : Made) (x : Event) → Served input first start l e tally → e.call ≡ Some x
      → call_of m ≡ call_in x → Meets l m → tally' ≡ heard tally m → next ≡ timed_at e.more input e.place
      → Served input first start (link_left m) next tally'
  unfolding tally_of last_link
  served_on l e next tally tally' m x s on call meets told after =
      let made = made_first_lem input l e next m x on call s.sound meets after in
      record {
        sound = meets_keeps l m s.sound meets;
        answers = s.answers ∙ ap (tally_of tally) made ∙ ap (λ (t : ℕ). tally_of t (made_from input (link_left m) next)) (sym told);
        last = s.last ∙ ap (last_link l) made;
      }

  -- where no call is left, the number and the link are those of the run
  module _ (l : Link) (e : TimedEvent) (tally : ℕ) (s : Served input first start l e tally) (off : e.call ≡ None) where
    pub served_tally : tally ≡ tally_of 0 (made_from input first start)
    unfolding tally_of
    served_tally = sym (s.answers ∙ ap (tally_of tally) (made_none input l e off))

    pub served_link : l ≡ last_link first (made_from input first start)
    unfolding last_link
    served_link = sym (s.last ∙ ap (last_link l) (made_none input l e off))

-- the first events of a recording: none where the plan is refused
module _ (n : ℕ) (input : List ℕ) (s : Step) (begun : s ≡ begin_of input) where
  timed_as : timed_run n input ≡ cond s.more (made_in (run_of true s.link (events_from n input s.place).calls)) []
  unfolding timed_run
  timed_as =
      ap (λ (x : Step). cond x.more (made_in (run_of true x.link (events_from n input x.place).calls)) []) (sym begun)

  pub timed_none : s.more ≡ false → timed_run n input ≡ []
  timed_none off = timed_as ∙ rw off refl

  pub timed_run_lem : (e : TimedEvent) → s.more ≡ true → e ≡ timed_at n input s.place → made_from input s.link e ≡ timed_run n input
  timed_run_lem e on is =
      ap (λ (calls : List Call). made_in (run_of true s.link calls)) (ap (calls_in input) is ∙ timed_calls n input s.place)
      ∙ sym (timed_as ∙ rw on refl)

  pub begun_sound : s.more ≡ true → SoundLink s.link
  begun_sound on =
      subst (λ (x : Step). SoundLink x.link) (sym begun) (begin_sound input (sym (ap (λ (x : Step). x.more) begun) ∙ on))

-- the lines of a recording's events, one part of them: none where the plan is refused
module _ (input : List ℕ) (s : Step) (begun : s ≡ begin_of input) (before : List ℕ) where
  text_as : timed_text input (length before) ≡ cond s.more (part_of true s.link input s.place (length before)).text []
  unfolding timed_text
  text_as = ap (λ (x : Step). cond x.more (part_of true x.link input x.place (length before)).text []) (sym begun)

  pub text_none : s.more ≡ false → LaysText (timed_text input (length before)) before 0 before
  text_none off =
      let none : timed_text input (length before) ≡ [] = text_as ∙ rw off refl in
      subst (λ (text : List ℕ). LaysText text before 0 before) (sym none) (refl, refl)

  pub text_part : (r : PartRun) (after : List ℕ) → s.more ≡ true → Parts s.link input s.place before r after
      → LaysText (timed_text input (length before)) before r.laid after
  text_part r after on p =
      let told = p.exactly.complete (begun_sound 0 input s begun on) in
      let all : timed_text input (length before) ≡ (part_of true s.link input s.place (length before)).text = text_as ∙ rw on refl in
      let same : (part_of p.sound s.link input s.place (length before)).text ≡ timed_text input (length before) =
      ap (λ (b : Bool). (part_of b s.link input s.place (length before)).text) told ∙ sym all in
      (ap (λ (x : PartRun). x.laid) p.answer ∙ ap length same, p.lays ∙ ap (λ (text : List ℕ). text ++ drop (length text) before) same)

-- ---- soundness

-- a link with other tags
abbrev pub with_tags : Link → List ℕ → Link
with_tags l tags = marks_as l tags l.marks l.totals.charged

-- is sound exactly where the link is
pub tags_exactly : (l : Link) (tags : List ℕ) (sound : Bool) → Exactly sound (SoundLink (with_tags l tags)) → Exactly sound (SoundLink l)
tags_exactly l tags sound x = record {
  sound = λ e. any_marks_sound (with_tags l tags) l.tags l.marks l.totals.charged (x.sound e);
  complete = λ s. x.complete (any_marks_sound l tags l.marks l.totals.charged s);
}

-- how often it was found sound, one time more
pub found_more : (b s : Bool) (found found' n : ℕ) → b ≡ s → found ≡ cond s n 0 → found' ≡ cond b (found + 1) found
    → found' ≡ cond s (n + 1) 0
found_more b true found found' n same was is = rw same at is ∙ ap (λ (k : ℕ). k + 1) was
found_more b false found found' n same was is = rw same at is ∙ was

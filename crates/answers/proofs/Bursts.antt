-- Laws of calls made one after the other: row by row, and that they are the calls of the one run. Demands 1 and 2.
use mathlib.Core.Bool.{Bool, true, false, ◌&&◌}
use mathlib.Core.List.{List, [], ◌∷◌, ◌++◌, append_assoc, append-nil}
use mathlib.Core.Path.{◌≡◌, refl, sym, ap, ap₂, subst, ◌∙◌}
use Prim.Native.Nat.{ℕ, zero, suc, ◌+◌, ◌*◌, ◌/◌, ◌≤◌}
use native.Mathlib.Omega.{arith}
use native.Mathlib.Nat.{zero-add}
use borrow.Author.Tests.{leb-false}
use lib.Dec.{leb}
use lib.ListN.{length, take, drop, length-append}
use Rattle.plan.specs.declared.event.Event.TheVariants.{Arrive, SendNext}
use Rattle.checks.specs.declared.Refusal.TheVariants.{NotSound}
use Rattle.std.specs.Prelude.{Ok, Err, Some, None}
use Rattle.checks.specs.Check.{Exactly, Verdict, refusal_at}
use Rattle.checks.proofs.Laws.{not_true_and_false, exactly_yes, exactly_unique}
use Rattle.plan.specs.Event.{used_of, event_at, EventRead}
use Rattle.state.specs.declared.Link.{Link}
use Rattle.state.specs.Queue.{Shaped}
use Rattle.sound.specs.Sound.{SoundLink}
use Rattle.steps.specs.declared.Stand.{Stand}
use Rattle.calls.specs.Run.{Call, arrival, send, Made, link_left, makes, run_of, made_in}
use Rattle.calls.proofs.Runs.{made_next}
use Rattle.digits.specs.Laid.{LaidAt}
use Rattle.digits.proofs.Laying.{over_none, over_start, laid_then, laid_length}
use Rattle.run.specs.Event.{packet_in}
use Rattle.run.specs.Run.{EventsRead, event_first, events_from}
use Rattle.answers.specs.declared.BurstEnd.{BurstEnd}
use Rattle.answers.specs.declared.CallsDone.{CallsDone}
use Rattle.answers.specs.declared.Reply.{Reply}
use Rattle.answers.specs.Reply.{reply_to, row_of, rows_of, last_reply}
use Rattle.answers.specs.Burst.{CallsMade, none_made, made_first, made_by, calls_from, burst_of, end_of, Bursts}
use Rattle.answers.specs.Steps.{Next, next_by, next_gives, Laid, ended_by, Told, Served}

-- ---- rows

rows_more : (m : Made) (rest : List Made) → rows_of (m ∷ rest) ≡ row_of (reply_to m) ++ rows_of rest
unfolding rows_of
rows_more m rest = refl

rows_none : rows_of [] ≡ []
unfolding rows_of
rows_none = refl

-- one row more at the end
rows_last : (ms : List Made) (m : Made) → rows_of (ms ++ (m ∷ [])) ≡ rows_of ms ++ row_of (reply_to m)
rows_last [] m = rows_more m [] ∙ ap (λ (x : List ℕ). row_of (reply_to m) ++ x) rows_none ∙ append-nil (row_of (reply_to m))
    ∙ ap (λ (x : List ℕ). x ++ row_of (reply_to m)) (sym rows_none)
rows_last (k ∷ ms) m =
    rows_more k (ms ++ (m ∷ [])) ∙ ap (λ (x : List ℕ). row_of (reply_to k) ++ x) (rows_last ms m)
    ∙ sym (append_assoc (row_of (reply_to k)) (rows_of ms) (row_of (reply_to m)))
    ∙ ap (λ (x : List ℕ). x ++ row_of (reply_to m)) (sym (rows_more k ms))

-- a row has eight numbers
pub rows_length : (ms : List Made) → length (rows_of ms) ≡ 8 * length ms
rows_length [] = ap length rows_none
rows_length (m ∷ ms) = ap length (rows_more m ms) ∙ length-append (row_of (reply_to m)) (rows_of ms) ∙ omega (arith, rows_length ms)

-- a row that is laid takes eight places
pub laid_moves : (more : Bool) (reply : Reply) (at : ℕ) (before : List ℕ) (r : ℕ) (out : List ℕ) → Laid more reply at before r out
    → more ≡ true → r ≡ at + 8
laid_moves true reply at before r out laid m = laid.0
laid_moves false reply at before r out laid m = absurd (not_true_and_false m refl)

-- ---- calls that are left after some

abbrev pub after_these : List Made → CallsMade → CallsMade
after_these ms rest = record { made = ms ++ rest.made; link = rest.link; place = rest.place; verdict = rest.verdict }

these_then : (ms : List Made) (m : Made) (rest : CallsMade) → after_these ms (made_first m rest) ≡ after_these (ms ++ (m ∷ [])) rest
these_then ms m rest =
    ap (λ (x : List Made). record { made = x; link = rest.link; place = rest.place; verdict = rest.verdict })
    (sym (append_assoc ms (m ∷ []) rest.made))

-- so many at most where the run goes on, and else none
abbrev pub rest_of : Bool → ℕ → Link → List ℕ → ℕ → Verdict → CallsMade
rest_of true left l input place verdict = calls_from left l input place
rest_of false left l input place verdict = none_made l place verdict

calls_suc : (n : ℕ) (l : Link) (input : List ℕ) (place : ℕ)
    → calls_from (suc n) l input place ≡ made_by (event_at (drop place input) place) l place (λ after next. calls_from n after input next)
unfolding calls_from
calls_suc n l input place = refl

calls_none : (l : Link) (input : List ℕ) (place : ℕ) → calls_from 0 l input place ≡ none_made l place (Ok tt)
unfolding calls_from
calls_none l input place = refl

-- ---- calls underway in their buffer

-- what is known between two events: the calls made so far have their rows at the buffer's start, and with what is left they are all the
-- calls
pub record Making (l : Link) (input : List ℕ) (place : ℕ) (before : List ℕ) (x : Next) (laid : ℕ) (now : List ℕ) : Type 0 where
  pub these : List Made
  pub left : ℕ
  pub enough : length these + left ≡ length before / 8
  pub whole : calls_from (length before / 8) l input place
      ≡ after_these these (rest_of x.more left x.link input x.place x.reply.verdict)
  pub rows : LaidAt 0 (rows_of these) before laid now
  pub long : length now ≡ length before

module _ (l : Link) (input : List ℕ) (place : ℕ) (before : List ℕ) where
  pub making_starts : (reply : Reply)
      → Making l input place before (record { reply = reply; more = true; link = l; place = place }) 0 before
  making_starts reply = record {
    these = [];
    left = length before / 8;
    enough = zero-add (length before / 8);
    whole = refl;
    rows = rw rows_none (refl, sym (over_none 0 before));
    long = refl;
  }

  module _ (x : Next) (laid : ℕ) (now : List ℕ) (y : Making l input place before x laid now) where
    pub making_laid : laid ≡ 8 * length y.these
    making_laid = y.rows.0 ∙ zero-add (length (rows_of y.these)) ∙ rows_length y.these

    pub making_within : laid ≤ length now
    making_within = omega (arith, making_laid, y.enough, y.long)

    -- one event more: a call whose row is laid, or the last one
    module _ (more : x.more ≡ true) (room : laid + 8 ≤ length now) (r : ℕ) (next : List ℕ) where
      abbrev Goes : Next → Type 0
      Goes z = Laid z.more z.reply laid now r next → Making l input place before z r next

      left_over : (n : ℕ) → y.left ≡ suc n
          → calls_from (length before / 8) l input place
          ≡ after_these y.these (made_by (event_at (drop x.place input) x.place) x.link x.place
          (λ after to. calls_from n after input to))
      left_over n e =
          y.whole ∙ ap (λ (b : Bool). after_these y.these (rest_of b y.left x.link input x.place x.reply.verdict)) more
          ∙ ap (λ (k : ℕ). after_these y.these (calls_from k x.link input x.place)) e
          ∙ ap (after_these y.these) (calls_suc n x.link input x.place)

      one_more_lem : (n : ℕ) → y.left ≡ suc n → (m : Made) (to : ℕ)
          → made_by (event_at (drop x.place input) x.place) x.link x.place (λ after at. calls_from n after input at)
          ≡ made_first m (calls_from n (link_left m) input to) → Goes (next_by m to)
      one_more_lem n e m to is laid-row = record {
        these = y.these ++ (m ∷ []);
        left = n;
        enough = omega (arith, y.enough, e, length-append y.these (m ∷ []));
        whole = left_over n e ∙ ap (after_these y.these) is ∙ these_then y.these m (calls_from n (link_left m) input to);
        rows = rw (rows_last y.these m) (laid_then 0 (rows_of y.these) (row_of (reply_to m)) before now next laid r
            (omega (arith, y.rows.0, making_within, y.long)) y.rows laid-row);
        long = laid_length laid (row_of (reply_to m)) now next r (omega (arith, laid-row.0, room)) laid-row ∙ y.long;
      }

      no_more : (n : ℕ) → y.left ≡ suc n → (verdict : Verdict) (reply : Reply) → reply.verdict ≡ verdict
          → made_by (event_at (drop x.place input) x.place) x.link x.place (λ after at. calls_from n after input at)
          ≡ none_made x.link x.place verdict
          → Goes (record { reply = reply; more = false; link = x.link; place = x.place })
      no_more n e verdict reply v is none = record {
        these = y.these;
        left = y.left;
        enough = y.enough;
        whole = left_over n e ∙ ap (after_these y.these) (is ∙ ap (none_made x.link x.place) (sym v));
        rows = subst (λ (k : ℕ). LaidAt 0 (rows_of y.these) before k next) (sym none.0)
            (subst (λ (o : List ℕ). LaidAt 0 (rows_of y.these) before laid o) (sym none.1) y.rows);
        long = ap length none.1 ∙ y.long;
      }

      by_event : (n : ℕ) → y.left ≡ suc n → (e : EventRead) → event_at (drop x.place input) x.place ≡ e
          → Goes (next_gives true x.link x.place e)
      by_event n s (Ok None) e = no_more n s (Ok tt) (last_reply (Ok tt)) refl
          (ap (λ (v : EventRead). made_by v x.link x.place (λ after at. calls_from n after input at)) e)
      by_event n s (Ok (Some (Arrive a))) e = one_more_lem n s (makes true x.link (arrival a.class (packet_in a))) (x.place + used_of (Ok (Some (Arrive a))))
          (ap (λ (v : EventRead). made_by v x.link x.place (λ after at. calls_from n after input at)) e)
      by_event n s (Ok (Some SendNext)) e = one_more_lem n s (makes true x.link send) (x.place + used_of (Ok (Some SendNext)))
          (ap (λ (v : EventRead). made_by v x.link x.place (λ after at. calls_from n after input at)) e)
      by_event n s (Err r) e = no_more n s (Err r) (last_reply (Err r)) refl
          (ap (λ (v : EventRead). made_by v x.link x.place (λ after at. calls_from n after input at)) e)

      pub making_on : (z : Next) → z ≡ next_gives true x.link x.place (event_at (drop x.place input) x.place) → Goes z
      making_on z is = go y.left refl
        where
          go : (k : ℕ) → y.left ≡ k → Goes z
          go zero e = absurd (omega (arith, making_laid, y.enough, y.long, room, e))
          go (suc n) e = subst Goes (sym is) (by_event n e (event_at (drop x.place input) x.place) refl)

    -- where no event more is taken they are all the calls
    pub making_ends : (r : CallsDone) → r.laid ≡ laid → r.run.more ≡ x.more → r.run.reply ≡ x.reply → r.run.place ≡ x.place
        → (x.more && leb (laid + 8) (length now)) ≡ false → Told true x.link
        → Served l input place before r now x.link
    making_ends r count more reply at test told = record {
      made = after_these y.these (none_made x.link x.place (ended_by x.more x.reply.verdict));
      calls = sym (y.whole ∙ ap (after_these y.these) (ended x.more refl));
      rows = rw (append-nil y.these) (subst (λ (k : ℕ). LaidAt 0 (rows_of y.these) before k now) (sym count) y.rows);
      count = rw (append-nil y.these) (omega (arith, count, making_laid));
      link = refl;
      place_after = at;
      verdict = ap₂ (λ (b : Bool) (v : Reply). ended_by b v.verdict) more reply;
      told = told;
    }
      where
        full : x.more ≡ true → y.left ≡ 0
        full on = omega (
          arith,
          making_laid,
          y.enough,
          y.long,
          leb-false (laid + 8) (length now)
              (sym (ap (λ (b : Bool). b && leb (laid + 8) (length now)) on) ∙ test),
        )

        ended : (b : Bool) → x.more ≡ b
            → rest_of x.more y.left x.link input x.place x.reply.verdict
            ≡ none_made x.link x.place (ended_by x.more x.reply.verdict)
        ended true e = rw e (ap (λ (k : ℕ). calls_from k x.link input x.place) (full e) ∙ calls_none x.link input x.place)
        ended false e = rw e refl

-- ---- a burst

-- the same link, standing where its four numbers say
pub served_from : {l l' : Link} {input : List ℕ} {place : ℕ} {before : List ℕ} {d : CallsDone} {out : List ℕ} {after : Link} → l ≡ l'
    → Served l input place before d out after → Served l' input place before d out after
served_from {input = input} {place = place} {before = before} {d = d} {out = out} {after = after} e served =
    subst (λ (x : Link). Served x input place before d out after) e served

pub served_at : (f : Stand → Link) {s s' : Stand} {input : List ℕ} {place : ℕ} {before : List ℕ} {d : CallsDone} {out : List ℕ}
    {after : Link} → s ≡ s' → Served (f s) input place before d out after → Served (f s') input place before d out after
served_at f {input = input} {place = place} {before = before} {d = d} {out = out} {after = after} e served =
    subst (λ (x : Stand). Served (f x) input place before d out after) e served

module _ (l : Link) (input : List ℕ) (place : ℕ) (before : List ℕ) (shape : Shaped l) where
  -- on a record that is not sound none is made
  pub bursts_none : (r : BurstEnd) → r ≡ record { verdict = Err (refusal_at NotSound 0); place = 0; replies = 0 } → Exactly false (SoundLink l)
      → Bursts l input place before r before l
  bursts_none r is exactly = record {
    shape = shape;
    sound = false;
    exactly = exactly;
    answer = is;
    rows = rw rows_none refl;
    link = refl;
    keeps = λ sound. sound;
  }

  -- on a sound one they are those made
  pub bursts_made : (d : CallsDone) (out : List ℕ) (after : Link) (verdict : Verdict) → SoundLink l
      → Served l input place before d out after → verdict ≡ ended_by d.run.more d.run.reply.verdict
      → Bursts l input place before (record { verdict = verdict; place = d.run.place; replies = d.laid / 8 }) out after
  bursts_made d out after verdict sound served is = record {
    shape = shape;
    sound = true;
    exactly = exactly_yes sound;
    answer =
        ap (λ (v : Verdict). record { verdict = v; place = d.run.place; replies = d.laid / 8 }) (is ∙ served.verdict)
        ∙ ap₂ (λ (p n : ℕ). record { verdict = served.made.verdict; place = p; replies = n }) served.place_after served.count
        ∙ ap end_of served.calls;
    rows =
        served.rows.1 ∙ over_start (rows_of served.made.made) before
        ∙ ap (λ (c : CallsMade). rows_of c.made ++ drop (length (rows_of c.made)) before) served.calls;
    link = served.link ∙ ap (λ (c : CallsMade). c.link) served.calls;
    keeps = λ _. served.told.exactly.sound refl;
  }

-- ---- what a burst allows: one outcome

module _ (l : Link) (input : List ℕ) (place : ℕ) (before : List ℕ) where
  pub burst_one_answer : (r r' : BurstEnd) (out out' : List ℕ) (after after' : Link) → Bursts l input place before r out after
      → Bursts l input place before r' out' after' → (r ≡ r') × (out ≡ out') × (after ≡ after')
  burst_one_answer r r' out out' after after' x y =
      let same = exactly_unique x.exactly y.exactly in
      let calls : Bool → CallsMade = λ b. burst_of b l input place before in
      let rows : Bool → List ℕ = λ b. rows_of (calls b).made in (
        x.answer ∙ ap (λ (b : Bool). end_of (calls b)) same ∙ sym y.answer,
        x.rows ∙ ap (λ (b : Bool). rows b ++ drop (length (rows b)) before) same ∙ sym y.rows,
        x.link ∙ ap (λ (b : Bool). (calls b).link) same ∙ sym y.link,
      )

-- ---- the calls are those of the one run

made_none : (l : Link) → made_in (run_of true l []) ≡ []
unfolding run_of made_in
made_none l = refl

events_next : (n : ℕ) (input : List ℕ) (place : ℕ)
    → events_from (suc n) input place ≡ event_first (event_at (drop place input) place) (λ used. events_from n input (place + used))
unfolding events_from
events_next n input place = refl

-- the calls of the first n events, as the run reads them, whatever more it reads (R344)
pub calls_of_run : (n more : ℕ) (l : Link) (input : List ℕ) (place : ℕ)
    → (calls_from n l input place).made ≡ made_in (run_of true l (take n (events_from (n + more) input place).calls))
calls_of_run zero more l input place = ap (λ (c : CallsMade). c.made) (calls_none l input place) ∙ sym (made_none l)
calls_of_run (suc n) more l input place = step (λ after to. calls_of_run n more after input to)
  where
    later : ℕ → EventsRead
    later used = events_from (n + more) input (place + used)

    Rest : Type 0
    Rest = (after : Link) (to : ℕ)
        → (calls_from n after input to).made ≡ made_in (run_of true after (take n (events_from (n + more) input to).calls))

    one : Rest → (call : Call) (used : ℕ)
        → makes true l call ∷ (calls_from n (link_left (makes true l call)) input (place + used)).made
        ≡ made_in (run_of true l (call ∷ take n (later used).calls))
    one rest call used =
        ap (λ (ms : List Made). makes true l call ∷ ms) (rest (link_left (makes true l call)) (place + used))
        ∙ sym (made_next true l call (take n (later used).calls))

    go : Rest → (e : EventRead)
        → (made_by e l place (λ after next. calls_from n after input next)).made
        ≡ made_in (run_of true l (take (suc n) (event_first e later).calls))
    go rest (Ok None) = sym (made_none l)
    go rest (Ok (Some (Arrive a))) = one rest (arrival a.class (packet_in a)) (used_of (Ok (Some (Arrive a))))
    go rest (Ok (Some SendNext)) = one rest send (used_of (Ok (Some SendNext)))
    go rest (Err _) = sym (made_none l)

    same : suc (n + more) ≡ suc n + more
    same = omega arith

    step : Rest → (calls_from (suc n) l input place).made ≡ made_in
        (run_of true l (take (suc n) (events_from (suc n + more) input place).calls))
    step rest =
        ap (λ (c : CallsMade). c.made) (calls_suc n l input place) ∙ go rest (event_at (drop place input) place)
        ∙ ap (λ (e : EventsRead). made_in (run_of true l (take (suc n) e.calls))) (sym (events_next (n + more) input place))
        ∙ ap (λ (k : ℕ). made_in (run_of true l (take (suc n) (events_from k input place).calls))) same

-- Where a round has closed in a run of the library, the link was sound. Demand 2.
use mathlib.Core.Bool.{Bool, true, false}
use mathlib.Core.List.{List, [], ◌∷◌, ◌++◌, map}
use mathlib.Core.Path.{◌≡◌, refl, sym, ap, subst, ◌∙◌}
use native.Mathlib.Omega.{arith}
use lib.ListN.{length}
use Rattle.checks.specs.Check.{Exactly}
use Rattle.checks.proofs.Laws.{not_true_and_false}
use Rattle.state.specs.declared.Link.{Link}
use Rattle.sound.specs.Sound.{SoundLink}
use Rattle.rules.specs.Sending.{Turn}
use Rattle.calls.specs.declared.AfterArrival.{AfterArrival}
use Rattle.calls.specs.declared.AfterSend.{AfterSend}
use Rattle.calls.specs.Arrival.{arrival_leaves}
use Rattle.calls.specs.Send.{send_leaves}
use Rattle.calls.specs.Run.{arrival, send, Made, made, link_left, turns_by, turns_in, Moment, closed, called, closed_in, Meets, Run, moments_of}
use Rattle.calls.proofs.Arrivals.{unsound_refused}
use Rattle.calls.proofs.Departures.{unsound_sends_none}
use Rattle.siblings.specs.Siblings.{Closings}

-- a call on a link that is not sound is refused, and leaves the very link
unsound_call : (l : Link) (m : Made) → (SoundLink l → ⊥) → Meets l m → (turns_in l m ≡ []) × (link_left m ≡ l)
unsound_call l (made (arrival i p) answer after) bad x =
    (refl, ap (λ (a : AfterArrival). a.link) (unsound_refused l i p (arrival_leaves answer after) bad x))
unsound_call l (made send answer after) bad x =
    let same = unsound_sends_none l (send_leaves answer after) bad x in
    (ap (λ (d : AfterSend). turns_by d.answer.verdict l) same, ap (λ (d : AfterSend). d.link) same)

-- so no round closes in a run from one
none_closed : (ms : List Made) (l : Link) → (SoundLink l → ⊥) → Run l ms → closed_in (moments_of l ms) ≡ []
unfolding Run moments_of closed_in
none_closed [] l bad run = refl
none_closed (m ∷ ms) l bad run =
    let c = unsound_call l m bad run.0 in
    ap (λ (turns : List Turn). closed_in (map closed turns ++ (called m ∷ moments_of (link_left m) ms))) c.0
    ∙ none_closed ms (link_left m) (λ s. bad (subst SoundLink c.1 s)) run.1

some_closed : (before : List Moment) (turn : Turn) (later : List Moment) → closed_in (before ++ (closed turn ∷ later)) ≡ [] → ⊥
unfolding closed_in
some_closed [] turn later e = omega (arith, ap length e)
some_closed (closed other ∷ before) turn later e = omega (arith, ap length e)
some_closed (called m ∷ before) turn later e = some_closed before turn later e

-- whether the link is sound, as the contract of a call decides it
pub record Judged (l : Link) : Type 0 where
  pub sound : Bool
  pub exactly : Exactly sound (SoundLink l)

judged : (l : Link) (m : Made) → Meets l m → Judged l
judged l (made (arrival i p) answer after) x = record { sound = x.sound; exactly = x.exactly }
judged l (made send answer after) x = record { sound = x.sound; exactly = x.exactly }

pub closings_sound : (ms : List Made) (l : Link) → Run l ms → Closings (moments_of l ms) → SoundLink l
unfolding Run moments_of closed_in
closings_sound [] l run c = absurd (some_closed c.before c.first _ (ap closed_in (sym c.order)))
closings_sound (m ∷ ms) l run c = go (judged l m run.0)
  where
    go : Judged l → SoundLink l
    go j = by j.sound refl
      where
        by : (b : Bool) → j.sound ≡ b → SoundLink l
        by true e = j.exactly.sound e
        by false e =
            let none = none_closed (m ∷ ms) l (λ s. not_true_and_false (j.exactly.complete s) e) run in
            absurd (some_closed c.before c.first _ (ap closed_in (sym c.order) ∙ none))

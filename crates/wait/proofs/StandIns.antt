-- Stand-ins that the contracts reject (docs/PROMISES.md, "Stand-ins"): for each, a call on a fresh link of a tree of two leaves that shows
-- it. Demand 2.
use mathlib.Core.Bool.{true}
use mathlib.Core.Path.{◌≡◌, refl, sym, ap, ◌∙◌}
use Prim.Native.Nat.{ℕ}
use native.Mathlib.Omega.{arith}
use lib.ListN.{length}
use Rattle.checks.specs.declared.Refusal.{Refusal}
use Rattle.std.specs.Prelude.{Ok, Err}
use Rattle.checks.specs.Check.{first_broken, refusal_at}
use Rattle.checks.proofs.Laws.{not_both, not_true_and_false, exactly_yes}
use Rattle.state.specs.declared.Link.{Link}
use Rattle.state.specs.declared.Packet.{Packet}
use Rattle.state.specs.Queue.{Shaped}
use Rattle.state.specs.State.{State, meaning}
use Rattle.state.proofs.Meaning.{shaped_fresh}
use Rattle.sound.specs.Sound.{SoundLink}
use Rattle.rules.specs.Active.{waits, some_waits}
use Rattle.rules.specs.Sending.{trace_of}
use Rattle.calls.specs.declared.AfterArrival.{AfterArrival}
use Rattle.calls.specs.declared.AfterSend.{AfterSend}
use Rattle.calls.specs.Arrival.{arrival_checks, arrived, arrival_of, Arrives}
use Rattle.calls.specs.Send.{departs, send_of, Sends}
use Rattle.calls.specs.Run.{arrival, send}
use Rattle.calls.proofs.Arrivals.{arrival_verdict, arrival_shaped, arrives_as}
use Rattle.calls.proofs.Departures.{send_shaped, sends_as}
use Rattle.calls.proofs.Runs.{left_taken, sent_is, sent_means, rules_meet}
use Rattle.calls.proofs.FreshLinks.{fresh_sound}
use Rattle.wait.proofs.TwoLeaves.{tree, rules, fresh, first, second, with_first, with_both, sent_once, arrivals_pass, arrivals_wait}
use Rattle.wait.proofs.TwoLeaves.{two_sends}

-- an arrival and a send that meet their contracts on every sound link whose lists have the lengths of its arrays
pub record Obey (arrive : Link → ℕ → Packet → AfterArrival) (send : Link → AfterSend) : Type 0 where
  pub arrivals : (l : Link) (i : ℕ) (p : Packet) → Shaped l → SoundLink l → Arrives l i p (arrive l i p)
  pub sends : (l : Link) → Shaped l → SoundLink l → Sends l (send l)

-- the rules' own calls do
pub rules_obey : Obey (arrival_of true) (send_of true)
rules_obey = record {
  arrivals = λ l i p shape sound. rules_meet l (arrival i p) true (exactly_yes sound) shape;
  sends = λ l shape sound. rules_meet l send true (exactly_yes sound) shape;
}

-- a sound link whose lists have the lengths of its arrays and that means this state
record InState (l : Link) (s : State) : Type 0 where
  pub shape : Shaped l
  pub sound : SoundLink l
  pub means : meaning l ≡ s

module _ (arrive : Link → ℕ → Packet → AfterArrival) (send : Link → AfterSend) (obey : Obey arrive send) where
  -- ---- what such calls give on a sound link

  module _ (l : Link) (s : State) (i : ℕ) (p : Packet) (g : InState l s) where
    meets_arrival : Arrives l i p (arrive l i p)
    meets_arrival = obey.arrivals l i p g.shape g.sound

    arrive_verdict : (arrive l i p).answer.verdict ≡ first_broken (arrival_checks true s i p)
    arrive_verdict =
        ap (λ (a : AfterArrival). a.answer.verdict) (arrives_as l i p (arrive l i p) g.sound meets_arrival)
        ∙ arrival_verdict true l i p
        ∙ ap (λ (t : State). first_broken (arrival_checks true t i p)) g.means

    arrive_after : first_broken (arrival_checks true s i p) ≡ Ok tt → InState (arrive l i p).link (arrived s i p)
    arrive_after e = record {
      shape = rw (arrives_as l i p (arrive l i p) g.sound meets_arrival) (arrival_shaped true l i p g.shape);
      sound = meets_arrival.keeps g.sound;
      means =
          left_taken l i p (arrive l i p) g.sound meets_arrival
          (ap (λ (t : State). first_broken (arrival_checks true t i p)) g.means ∙ e)
          ∙ ap (λ (t : State). arrived t i p) g.means;
    }

  module _ (l : Link) (s : State) (g : InState l s) where
    meets_send : Sends l (send l)
    meets_send = obey.sends l g.shape g.sound

    send_is : some_waits s ≡ true → send l ≡ departs l (trace_of s)
    send_is w =
        sent_is l (send l) g.sound meets_send (ap some_waits g.means ∙ w) ∙ ap (λ (t : State). departs l (trace_of t)) g.means

    send_after : some_waits s ≡ true → InState (send l).link (trace_of s).state
    send_after w = record {
      shape = rw (sends_as l (send l) g.sound meets_send) (send_shaped l g.shape g.sound);
      sound = meets_send.keeps g.sound;
      means = sent_means l (send l) g.sound meets_send (ap some_waits g.means ∙ w) ∙ ap (λ (t : State). (trace_of t).state) g.means;
    }

  -- ---- the calls on the two leaves

  starts : InState fresh (meaning fresh)
  unfolding fresh
  starts = record { shape = shaped_fresh tree; sound = fresh_sound tree rules; means = refl }

  -- the link with the first packet, with both, and after a send
  abbrev pub one : Link
  one = (arrive fresh 1 first).link

  abbrev pub two : Link
  two = (arrive one 2 second).link

  abbrev pub gone : Link
  gone = (send two).link

  one_gives : InState one with_first
  unfolding with_first
  one_gives = arrive_after fresh (meaning fresh) 1 first starts arrivals_pass.0

  two_gives : InState two with_both
  unfolding with_both
  two_gives = arrive_after one with_first 2 second one_gives arrivals_pass.2

  gone_gives : InState gone sent_once
  unfolding sent_once
  gone_gives = send_after two with_both two_gives two_sends.0.waits

  sent_first : send two ≡ departs two (trace_of with_both)
  sent_first = send_is two with_both two_gives two_sends.0.waits

  sent_second : send gone ≡ departs gone (trace_of sent_once)
  sent_second = send_is gone sent_once gone_gives two_sends.1.waits

  first_tag : (send two).answer.tag ≡ 1
  first_tag = ap (λ (d : AfterSend). d.answer.tag) sent_first ∙ two_sends.0.tag

  second_tag : (send gone).answer.tag ≡ 4
  second_tag = ap (λ (d : AfterSend). d.answer.tag) sent_second ∙ two_sends.1.tag

  -- ---- the stand-ins

  -- a link that refuses everything
  pub refuses_everything : (n : Refusal) (q : ℕ) → (arrive fresh 1 first).answer.verdict ≡ Err (refusal_at n q) → ⊥
  refuses_everything n q e = not_both (arrive_verdict fresh (meaning fresh) 1 first starts ∙ arrivals_pass.0) e

  pub sends_nothing : (n : Refusal) (q : ℕ) → (send two).answer.verdict ≡ Err (refusal_at n q) → ⊥
  sends_nothing n q e = not_both (ap (λ (d : AfterSend). d.answer.verdict) sent_first) e

  -- one with a fixed answer: an arrival to a leaf and one to a number that is no class differ; no tag is that of every send
  pub fixed_verdict : (arrive fresh 1 first).answer.verdict ≡ (arrive fresh 3 first).answer.verdict → ⊥
  fixed_verdict e =
      not_both (arrive_verdict fresh (meaning fresh) 1 first starts ∙ arrivals_pass.0)
      (e ∙ arrive_verdict fresh (meaning fresh) 3 first starts ∙ arrivals_pass.1)

  pub fixed_answer : (tag : ℕ) → ((l : Link) → Shaped l → SoundLink l → (send l).answer.tag ≡ tag) → ⊥
  fixed_answer tag e =
      let a : (send two).answer.tag ≡ tag = e two two_gives.shape two_gives.sound in
      let b : (send gone).answer.tag ≡ tag = e gone gone_gives.shape gone_gives.sound in
      omega (arith, first_tag, second_tag, a, b)

  -- one that returns the state untouched after an arrival, the first or the next
  pub untouched : meaning one ≡ meaning fresh → ⊥
  untouched e = not_true_and_false (ap some_waits one_gives.means ∙ arrivals_wait.1) (ap some_waits e ∙ arrivals_wait.0)

  pub untouched_next : meaning two ≡ meaning one → ⊥
  untouched_next e =
      not_true_and_false (ap (λ (s : State). waits s 2) two_gives.means ∙ arrivals_wait.3)
      (ap (λ (s : State). waits s 2) (e ∙ one_gives.means) ∙ arrivals_wait.2)

  -- one that works on the first call and then repeats
  pub repeats : (send gone).answer.tag ≡ (send two).answer.tag → ⊥
  repeats e = omega (arith, first_tag, second_tag, e)

  -- or idles: it refuses, or leaves the state as it is
  pub idles : (n : Refusal) (q : ℕ) → (send gone).answer.verdict ≡ Err (refusal_at n q) → ⊥
  idles n q e = not_both (ap (λ (d : AfterSend). d.answer.verdict) sent_second) e

  pub idles_state : meaning (send gone).link ≡ meaning gone → ⊥
  idles_state e =
      not_true_and_false (ap some_waits gone_gives.means ∙ two_sends.1.waits)
      (ap some_waits (sym e ∙ (send_after gone sent_once gone_gives two_sends.1.waits).means) ∙ two_sends.2)

  -- one with an invented round count: it is that of the openings, and no fixed one
  pub counts_openings : (l : Link) → Shaped l → SoundLink l → some_waits (meaning l) ≡ true
      → (send l).answer.rounds ≡ length (trace_of (meaning l)).turns
  counts_openings l shape sound w =
      ap (λ (d : AfterSend). d.answer.rounds) (send_is l (meaning l) (record { shape = shape; sound = sound; means = refl }) w)

  pub fixed_count : (send gone).answer.rounds ≡ (send two).answer.rounds → ⊥
  fixed_count e =
      let a : (send two).answer.rounds ≡ 1 = ap (λ (d : AfterSend). d.answer.rounds) sent_first ∙ two_sends.0.rounds in
      let b : (send gone).answer.rounds ≡ 0 = ap (λ (d : AfterSend). d.answer.rounds) sent_second ∙ two_sends.1.rounds in
      omega (arith, e, a, b)

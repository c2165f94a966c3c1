-- What the second engine's calls answer meets their contract, by the verdict.
use mathlib.Core.Bool.{Bool, true, false}
use mathlib.Core.Path.{◌≡◌, refl, sym, ap, subst, ◌∙◌}
use Prim.Native.Nat.{ℕ}
use Rattle.checks.specs.declared.Refusal.TheVariants.{NotSound, NothingWaits}
use Rattle.std.specs.Prelude.{Err}
use Rattle.checks.specs.Check.{Exactly, Verdict, refusal_at}
use Rattle.checks.proofs.Laws.{decides, exactly_no, exactly_yes}
use Rattle.state.specs.declared.Packet.{Packet}
use Rattle.state.specs.State.{meaning}
use Rattle.rules.specs.Active.{some_waits}
use Rattle.calls.specs.declared.AfterArrival.{AfterArrival}
use Rattle.calls.specs.Arrival.{arrival_answer, Arrives}
use Rattle.calls.specs.Run.{arrival, send}
use Rattle.calls.specs.Send.{refused_send}
use Rattle.calls.proofs.Arrivals.{unsound_number, arrival_refused}
use Rattle.published.specs.declared.Second.{Second}
use Rattle.published.specs.declared.SecondArrival.{SecondArrival}
use Rattle.published.specs.declared.SecondSend.{SecondSend}
use Rattle.published.specs.Second.{means, SoundSecond, ShapedSecond, Given, with_link, send_given, gives}
use Rattle.published.specs.Contract.{made_second, MeetsSecond}
use Rattle.published.proofs.Contracts.{second_by_lem}
use Rattle.published.proofs.OneSend.{same_waits, gives_is, refuses_is}
use Rattle.asking.specs.Right.{AskedRight}
use Rattle.published_link.specs.Calls.{arrival_left, send_left, sent_of}
use Rattle.published_link.proofs.Judging.{sound_by_link}

-- an answer and a link that are those of an exact flag
module _ (l : Second) (shape : ShapedSecond l) where
  -- an arrival on a record that is not sound
  pub arrival_unsound : (i : ℕ) (p : Packet) (r : SecondArrival) → (SoundSecond l → ⊥)
      → r ≡ arrival_left (arrival_answer (Err (refusal_at NotSound 0)) 0) l → MeetsSecond l (made_second (arrival i p) r.answer r.link)
  arrival_unsound i p r none e =
      subst (MeetsSecond l)
      (ap (λ (a : AfterArrival). made_second (arrival i p) a.answer (with_link l a.link))
      (arrival_refused false l.link i p (unsound_number (meaning l.link) i p))
      ∙ sym (ap (λ (a : SecondArrival). made_second (arrival i p) a.answer a.link) e))
      (second_by_lem l (arrival i p) false shape (exactly_no none))

  -- an arrival where who has asked is right is the first engine's
  pub arrival_first : (i : ℕ) (p : Packet) (a : AfterArrival) → AskedRight (means l) → Arrives l.link i p a
      → MeetsSecond l (made_second (arrival i p) a.answer (with_link l a.link))
  arrival_first i p a asked x =
      subst (MeetsSecond l) (sym (ap (λ (r : AfterArrival). made_second (arrival i p) r.answer (with_link l r.link)) x.answer))
      (second_by_lem l (arrival i p) x.sound shape (sound_by_link l x.sound asked x.exactly))

  -- a send of which it is known what it gives
  send_by : (flag : Bool) (r : SecondSend) (g : Given send) → Exactly flag (SoundSecond l) → gives flag l send ≡ g
      → r ≡ send_left g.answer g.after → MeetsSecond l (made_second send r.answer r.link)
  send_by flag r g exactly is e =
      subst (MeetsSecond l)
      (ap (λ (x : Given send). made_second send x.answer x.after) is
      ∙ sym (ap (λ (x : SecondSend). made_second send x.answer x.link) e))
      (second_by_lem l send flag shape exactly)

  unsound_gives : gives false l send ≡ send_given (Err (refusal_at NotSound 0)) l
  unsound_gives = ap (λ (v : Verdict). send_given v l) (decides _ _ refl)

  pub send_unsound : (r : SecondSend) → (SoundSecond l → ⊥) → r ≡ send_left (refused_send (Err (refusal_at NotSound 0))) l
      → MeetsSecond l (made_second send r.answer r.link)
  send_unsound r none e = send_by false r (send_given (Err (refusal_at NotSound 0)) l) (exactly_no none) unsound_gives e

  module _ (sound : SoundSecond l) where
    pub send_nothing : (r : SecondSend) → some_waits (meaning l.link) ≡ false → r ≡ send_left (refused_send (Err (refusal_at NothingWaits 0))) l
        → MeetsSecond l (made_second send r.answer r.link)
    send_nothing r none e =
        send_by true r (send_given (Err (refusal_at NothingWaits 0)) l) (exactly_yes sound)
        (refuses_is l sound shape (same_waits l ∙ none)) e

    pub send_goes : (r : SecondSend) → some_waits (meaning l.link) ≡ true → r ≡ sent_of l
        → MeetsSecond l (made_second send r.answer r.link)
    send_goes r some e =
        send_by true r _ (exactly_yes sound) (gives_is l sound shape (same_waits l ∙ some)) e

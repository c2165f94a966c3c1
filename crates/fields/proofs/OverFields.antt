-- Laws of the calls over the fields of a link: what a call over fields says is what the call on the link that they make up says, and it has
-- one outcome. Demands 1 and 2.
use mathlib.Core.Bool.{Bool, true}
use mathlib.Core.Path.{◌≡◌, sym, ap, ◌∙◌}
use Prim.Native.Nat.{ℕ}
use Rattle.checks.specs.declared.Refusal.TheVariants.{NotSound}
use Rattle.std.specs.Prelude.{Err}
use Rattle.checks.specs.Check.{Exactly, refusal_at}
use Rattle.checks.proofs.Laws.{exactly_unique}
use Rattle.state.specs.declared.Link.{Link}
use Rattle.state.specs.declared.Packet.{Packet}
use Rattle.state.specs.Queue.{Shaped}
use Rattle.sound.specs.Sound.{SoundLink}
use Rattle.calls.specs.declared.Arrival.{Arrival}
use Rattle.calls.specs.declared.AfterArrival.{AfterArrival}
use Rattle.calls.specs.declared.AfterSend.{AfterSend}
use Rattle.calls.specs.Arrival.{arrival_leaves, arrival_of, Arrives}
use Rattle.calls.specs.Send.{refused_send, send_leaves, send_gives, send_of, Sends}
use Rattle.calls.proofs.Arrivals.{arrives_by}
use Rattle.calls.proofs.Departures.{sends_by_lem}
use Rattle.fields.specs.declared.Changed.{Changed}
use Rattle.fields.specs.Fields.{ArrivesIn, changed_to, changed_link, GoesIn, SendsIn}

-- ---- an arrival

module _ (l : Link) (i : ℕ) (p : Packet) where
  -- of a link whose lists have the lengths of its arrays it is the call
  pub arrives_whole : (a : Arrival) (after : Link) → Shaped l → ArrivesIn l i p a after → Arrives l i p (arrival_leaves a after)
  arrives_whole a after shape x = arrives_by l i p x.sound (arrival_leaves a after) shape x.exactly x.gives

  -- any two outcomes are equal: the answers, and with the links every field
  pub arrival_fields_one_answer : (a b : Arrival) (m n : Link) → ArrivesIn l i p a m → ArrivesIn l i p b n → (a ≡ b) × (m ≡ n)
  arrival_fields_one_answer a b m n x y =
      let e = x.gives ∙ ap (λ (s : Bool). arrival_of s l i p) (exactly_unique x.exactly y.exactly) ∙ sym y.gives in
      (ap (λ (r : AfterArrival). r.answer) e, ap (λ (r : AfterArrival). r.link) e)

-- ---- a send

-- of a link whose lists have the lengths of its arrays it is the call
pub sends_whole : (l : Link) (r : Changed) → Shaped l → SendsIn l r → Sends l (send_leaves r.answer (changed_link l r))
sends_whole l r shape x = sends_by_lem l x.sound (send_leaves r.answer (changed_link l r)) shape x.exactly x.gives

-- any two answers are equal, every field of them
pub send_fields_one_answer : (l : Link) (r s : Changed) → SendsIn l r → SendsIn l s → r ≡ s
send_fields_one_answer l r s x y =
    ap
    (λ (a : AfterSend). changed_to a.answer a.link.start a.link.held a.link.totals a.link.round)
    (x.gives ∙ ap (λ (b : Bool). send_of b l) (exactly_unique x.exactly y.exactly) ∙ sym y.gives)

module _ (l : Link) (flag : Bool) (exactly : Exactly flag (SoundLink l)) (r : Changed) where
  -- a refused send changes no field
  pub stays_sends : send_of flag l ≡ send_gives (Err (refusal_at NotSound 0)) l
      → r ≡ changed_to (refused_send (Err (refusal_at NotSound 0))) l.start l.held l.totals l.round
      → SendsIn l r
  stays_sends gives said = record {
    sound = flag;
    exactly = exactly;
    gives = ap (λ (x : Changed). send_leaves x.answer (changed_link l x)) said ∙ sym gives;
  }

  -- a send on a sound link
  pub goes_sends : flag ≡ true → GoesIn l r → SendsIn l r
  goes_sends on gives = record { sound = flag; exactly = exactly; gives = gives ∙ sym (ap (λ (b : Bool). send_of b l) on) }

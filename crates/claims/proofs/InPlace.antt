-- An entry on a sound link whose fields are lent: what the steps give is what the definition says. Demand 2.
use mathlib.Core.Bool.{Bool, true, false, cond}
use mathlib.Core.List.{List}
use mathlib.Core.Path.{◌≡◌, refl, sym, ap, ap₂, subst, ◌∙◌}
use Prim.Native.Nat.{ℕ, ◌+◌}
use Rattle.plan.specs.declared.entry.Entry.TheVariants.{Arrives, Claims}
use Rattle.std.specs.Prelude.{Ok, Some, None}
use Rattle.checks.proofs.Laws.{exactly_yes}
use Rattle.plan.specs.declared.Arrived.{Arrived}
use Rattle.plan.specs.Entry.{entry_at, EntryRead, Claim}
use Rattle.state.specs.declared.Link.{Link}
use Rattle.state.specs.declared.Packet.{Packet}
use Rattle.state.specs.declared.Waiting.{Waiting}
use Rattle.state.specs.Queue.{Shaped}
use Rattle.state.specs.State.{meaning}
use Rattle.sound.specs.Sound.{SoundLink}
use Rattle.rules.specs.Active.{some_waits}
use Rattle.rules.specs.After.{Sent as Gone}
use Rattle.calls.specs.declared.Arrival.{Arrival}
use Rattle.calls.specs.declared.AfterArrival.{AfterArrival}
use Rattle.calls.specs.declared.AfterSend.{AfterSend}
use Rattle.calls.specs.Arrival.{arrival_of}
use Rattle.calls.specs.Send.{send_of}
use Rattle.calls.specs.Run.{Call, arrival, send, link_left, makes}
use Rattle.calls.proofs.Arrivals.{arrival_shaped}
use Rattle.calls.proofs.Departures.{send_goes, send_nothing, send_shaped}
use Rattle.calls.proofs.Runs.{meets_keeps, rules_meet}
use Rattle.steps.specs.declared.Stand.{Stand}
use Rattle.steps.specs.declared.Went.{Went}
use Rattle.steps.specs.Arrivals.{ArrivesOn}
use Rattle.steps.specs.Rounds.{sent_where, Departs}
use Rattle.claims.specs.declared.Judged.{Judged}
use Rattle.claims.specs.declared.in_place.Did.{Did}
use Rattle.claims.specs.Recording.{true_claim, same_claim, goes_on, decides, claim_gives, call_gives, entry_gives}
use Rattle.claims.proofs.Moving.{arrival_on}
use Rattle.claims.specs.Steps.{claim_of, did_go_on, did_decide, claim_did, checked_by, Enters}

-- ---- what has gone is what the call answers

abbrev claim_where : Bool → ℕ → Waiting → Claim
claim_where some class p = cond some (Some (record { class = class; length = p.length; tag = p.tag })) None

went_claim : (l : Link) (w : Went) (after : Link) → Departs l w after → claim_of w ≡ true_claim (send_of true l).answer
went_claim l w after d = ap (λ (s : Gone). claim_where w.some s.class s.packet) d.sent ∙ go w.some d.some
  where
    go : (b : Bool) → b ≡ some_waits (meaning l)
        → claim_where b (sent_where b l).class (sent_where b l).packet ≡ true_claim (send_of true l).answer
    go true e = sym (ap (λ (s : AfterSend). true_claim s.answer) (send_goes l (sym e)))
    go false e = sym (ap (λ (s : AfterSend). true_claim s.answer) (send_nothing l (sym e)))

went_link : (l : Link) (w : Went) (after : Link) → Departs l w after → after ≡ (send_of true l).link
went_link l w after d = ap (λ (s : Gone). s.link) d.sent ∙ go w.some d.some
  where
    go : (b : Bool) → b ≡ some_waits (meaning l) → (sent_where b l).link ≡ (send_of true l).link
    go true e = sym (ap (λ (s : AfterSend). s.link) (send_goes l (sym e)))
    go false e = sym (ap (λ (s : AfterSend). s.link) (send_nothing l (sym e)))

-- ---- an entry

module _ (l : Link) (place claims : ℕ) (rest : List ℕ) (sound : SoundLink l) (shape : Shaped l) where
  -- after a call
  called : (call : Call) (e : EntryRead) (r : Did) (after : Link) → entry_at rest ≡ e → after ≡ link_left (makes true l call)
      → Shaped (link_left (makes true l call)) → checked_by r after ≡ entry_gives l place claims e
      → Enters l place claims (entry_at rest) r after
  called call e r after told left long same = record {
    gives = same ∙ ap (entry_gives l place claims) (sym told);
    on = record {
      sound = subst SoundLink (sym left) (meets_keeps l (makes true l call) sound (rules_meet l call true (exactly_yes sound) shape));
      shape = subst Shaped (sym left) long;
    };
  }

  -- no call is made
  pub decides_in_place : (e : EntryRead) (j : Judged) (stand : Stand) → entry_at rest ≡ e
      → decides j l place claims ≡ entry_gives l place claims e
      → Enters l place claims (entry_at rest) (did_decide j place claims stand) l
  decides_in_place e j stand told same = record {
    gives = same ∙ ap (entry_gives l place claims) (sym told);
    on = record { sound = sound; shape = shape };
  }

  pub arrival_in_place : (a : Arrived) (answer : Arrival) (after : Link) (class : ℕ) (stand : Stand) → entry_at rest ≡ Ok (Some (Arrives a))
      → class ≡ a.class → ArrivesOn true l class (record { length = a.length; tag = a.tag }) answer after
      → Enters l place claims (entry_at rest) (did_go_on (place + 8) claims stand) after
  arrival_in_place a answer after class stand told wide is =
      let p : Packet = record { length = a.length; tag = a.tag } in
      let left : after ≡ (call_gives l a).link = ap (λ (x : AfterArrival). x.link) is ∙ ap (λ (i : ℕ). (arrival_of true l i p).link) wide in
      called (arrival a.class p) (Ok (Some (Arrives a))) (did_go_on (place + 8) claims stand) after told left
      (arrival_shaped true l a.class p shape)
      (ap (λ (k : Link). goes_on k (place + 8) claims) left ∙ sym (arrival_on l a place claims))

  pub claim_in_place : (c : Claim) (w : Went) (after : Link) → entry_at rest ≡ Ok (Some (Claims c)) → Departs l w after
      → Enters l place claims (entry_at rest) (claim_did (same_claim c (claim_of w)) c w place claims) after
  claim_in_place c w after told d =
      let left = went_link l w after d in
      called send (Ok (Some (Claims c))) (claim_did (same_claim c (claim_of w)) c w place claims) after told left (send_shaped l shape sound)
      (go (same_claim c (claim_of w))
      ∙ ap₂ (λ (x : Claim) (k : Link). claim_gives (same_claim c x) k c place claims) (went_claim l w after d) left)
    where
      go : (b : Bool) → checked_by (claim_did b c w place claims) after ≡ claim_gives b after c place claims
      go true = refl
      go false = refl

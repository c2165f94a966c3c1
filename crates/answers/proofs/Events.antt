-- Events on a link whose fields are lent: what the steps give is what the calls give. Demand 2.
use mathlib.Core.Bool.{Bool, true, false, cond}
use mathlib.Core.List.{List}
use mathlib.Core.Path.{◌≡◌, refl, sym, ap, ap₂, subst, ◌∙◌}
use Prim.Native.Nat.{ℕ, ◌+◌}
use lib.ListN.{drop}
use Rattle.plan.specs.declared.event.Event.TheVariants.{Arrive, SendNext}
use Rattle.checks.specs.declared.Refusal.TheVariants.{NothingWaits}
use Rattle.std.specs.Prelude.{Ok, Err, Some}
use Rattle.checks.specs.Check.{first_broken, Exactly, refusal_at}
use Rattle.checks.proofs.Laws.{exactly_yes}
use Rattle.plan.specs.declared.Arrived.{Arrived}
use Rattle.plan.specs.Event.{used_of, event_at, EventRead}
use Rattle.tree.specs.declared.Tree.{Tree}
use Rattle.state.specs.declared.Link.{Link}
use Rattle.state.specs.declared.Packet.{Packet}
use Rattle.state.specs.declared.Waiting.{Waiting}
use Rattle.state.specs.Mark.{since}
use Rattle.state.specs.Queue.{Shaped}
use Rattle.sound.specs.Sound.{SoundLink}
use Rattle.calls.specs.declared.Arrival.{Arrival}
use Rattle.calls.specs.declared.AfterArrival.{AfterArrival}
use Rattle.calls.specs.declared.AfterSend.{AfterSend}
use Rattle.calls.specs.Arrival.{Arrives, arrival_leaves, arrival_of}
use Rattle.calls.specs.declared.Departure.{Departure}
use Rattle.calls.specs.Send.{Sends, send_leaves, send_of}
use Rattle.calls.specs.Run.{Call, arrival, send, made, link_left, makes}
use Rattle.calls.proofs.Arrivals.{arrival_shaped}
use Rattle.calls.proofs.Departures.{send_unsound, send_shaped, sends_by_lem}
use Rattle.calls.proofs.Runs.{rules_meet, meets_keeps}
use Rattle.steps.specs.declared.Stand.{Stand}
use Rattle.steps.specs.declared.Went.{Went}
use Rattle.steps.specs.Arrivals.{ArrivesOn}
use Rattle.steps.specs.Fields.{link_at}
use Rattle.steps.specs.Rounds.{Departs, answer_of, went_answers}
use Rattle.steps.proofs.Departures.{departs_answers}
use Rattle.run.specs.Event.{packet_in}
use Rattle.answers.specs.declared.Reply.{Reply}
use Rattle.answers.specs.declared.event.Heard.{Heard}
use Rattle.answers.specs.Reply.{reply_to}
use Rattle.answers.specs.Steps.{ArrivesAs, send_reply, went_replies, DepartsAs, heard_by, Told, next_by, next_gives, Hears}

-- ---- an arrival

pub arrives_in_place : (sound : Bool) (l : Link) (a : Arrived) (r : Arrival) (after : Link)
    → ArrivesOn sound l a.class (packet_in a) r after
    → ArrivesAs sound l a (reply_to (made (arrival a.class (packet_in a)) r after)) after
arrives_in_place sound l a r after is = (
  ap (λ (x : AfterArrival). reply_to (made (arrival a.class (packet_in a)) x.answer x.link)) is,
  ap (λ (x : AfterArrival). x.link) is,
)

-- ---- a send

-- its reply
went_reply : (some : Bool) (class : ℕ) (p : Waiting) (rounds total : ℕ) (after : Link)
    → cond some (send_reply (Ok tt) class p.length p.tag (since total p.mark) rounds) (send_reply (Err (refusal_at NothingWaits 0)) 0 0 0 0 0)
    ≡ reply_to (made send (answer_of some class p rounds total) after)
went_reply true class p rounds total after = refl
went_reply false class p rounds total after = refl

pub departs_in_place : (l : Link) (w : Went) (after : Link) → w.stand.charged ≡ after.totals.charged → Departs l w after
    → DepartsAs true l w after
departs_in_place l w after total d =
    let is = departs_answers l w after total d in (
      went_reply w.some w.class w.packet w.rounds w.stand.charged after
          ∙ ap (λ (x : AfterSend). reply_to (made send x.answer x.link)) is,
      ap (λ (x : AfterSend). x.link) is,
    )

-- on a record that is not sound it is refused with 11, and nothing changes
pub refused_in_place : (l : Link) (w : Went) → w.some ≡ false → DepartsAs false l w l
refused_in_place l w none =
    let is = sym (send_unsound l) in
    (rw none (ap (λ (x : AfterSend). reply_to (made send x.answer x.link)) is), ap (λ (x : AfterSend). x.link) is)

-- ---- what a call leaves

-- a link whose lists are as long as they were
call_shaped : (l : Link) (call : Call) (sound : Bool) → Exactly sound (SoundLink l) → Shaped l → Shaped (link_left (makes sound l call))
call_shaped l (arrival i p) sound exactly shape = arrival_shaped sound l i p shape
call_shaped l send true exactly shape = send_shaped l shape (exactly.sound refl)
call_shaped l send false exactly shape = subst (λ (x : AfterSend). Shaped x.link) (sym (send_unsound l)) shape

-- a record that is not sound as it was
call_unsound : (l : Link) (call : Call) → link_left (makes false l call) ≡ l
unfolding arrival_of send_of first_broken
call_unsound l (arrival i p) = refl
call_unsound l send = refl

-- and so it is sound exactly when it was
pub call_told : (l : Link) (call : Call) (sound : Bool) → Told sound l → Told sound (link_left (makes sound l call))
call_told l call true told = record {
  exactly = exactly_yes (meets_keeps l (makes true l call) (told.exactly.sound refl)
      (rules_meet l call true told.exactly told.shape));
  shape = call_shaped l call true told.exactly told.shape;
}
call_told l call false told = subst (Told false) (sym (call_unsound l call)) told

-- ---- events

-- where it was told that the link is sound
pub heard_sound : {sound : Bool} {l : Link} {input : List ℕ} {place : ℕ} {r : Heard} {after : Link} → sound ≡ true
    → Hears sound l input place r after → Hears true l input place r after
heard_sound {l = l} {input = input} {place = place} {r = r} {after = after} on h =
    subst (λ (b : Bool). Hears b l input place r after) on h

module _ (l : Link) (input : List ℕ) (place : ℕ) (sound : Bool) (told : Told sound l) where
  -- an event that is no call
  pub last_heard : (e : EventRead) (stand : Stand) (reply : Reply) → event_at (drop place input) place ≡ e
      → record { reply = reply; more = false; link = l; place = place } ≡ next_gives sound l place e
      → Hears sound l input place (heard_by sound reply false place stand) l
  last_heard e stand reply at is = record {
    next = is ∙ ap (next_gives sound l place) (sym at);
    told = told;
    same = refl;
  }

  -- a call
  call_heard : (e : EventRead) (call : Call) (n : ℕ) (reply : Reply) (stand : Stand) (after : Link)
      → event_at (drop place input) place ≡ e
      → next_by (makes sound l call) (place + n) ≡ next_gives sound l place e
      → reply ≡ reply_to (makes sound l call) → after ≡ link_left (makes sound l call)
      → Hears sound l input place (heard_by sound reply true (place + n) stand) after
  call_heard e call n reply stand after at gives said left = record {
    next =
        ap₂ (λ (x : Reply) (y : Link). record { reply = x; more = true; link = y; place = place + n }) said left
        ∙ gives ∙ ap (next_gives sound l place) (sym at);
    told = subst (Told sound) (sym left) (call_told l call sound told);
    same = refl;
  }

  pub arrival_heard : (a : Arrived) (n : ℕ) (reply : Reply) (stand : Stand) (after : Link) → event_at (drop place input) place ≡ Ok (Some (Arrive a))
      → n ≡ used_of (Ok (Some (Arrive a))) → ArrivesAs sound l a reply after
      → Hears sound l input place (heard_by sound reply true (place + n) stand) after
  arrival_heard a n reply stand after at used is =
      let call = arrival a.class (packet_in a) in
      call_heard (Ok (Some (Arrive a))) call n reply stand after at (ap (λ (k : ℕ). next_by (makes sound l call) (place + k)) used) is.0 is.1

  pub send_heard : (w : Went) (n : ℕ) (reply : Reply) (after : Link) → event_at (drop place input) place ≡ Ok (Some SendNext)
      → n ≡ used_of (Ok (Some SendNext)) → reply ≡ went_replies sound w → DepartsAs sound l w after
      → Hears sound l input place (heard_by sound reply true (place + n) w.stand) after
  send_heard w n reply after at used said is =
      call_heard (Ok (Some SendNext)) send n reply w.stand after at (ap (λ (k : ℕ). next_by (makes sound l send) (place + k)) used)
      (said ∙ is.0) is.1

-- ---- a link that stands where its four numbers say

pub arrives_standing : (f : Stand → Link) (t : Tree) (balance residual start : List ℕ) {held lengths tags marks packets bytes : List ℕ}
    (class : ℕ) (p : Packet) {r : Arrival} {s s' : Stand} → s ≡ s'
    → Arrives (f s) class p (arrival_leaves r (link_at false t s balance residual start held lengths tags marks packets bytes))
    → Arrives (f s') class p (arrival_leaves r (link_at false t s' balance residual start held lengths tags marks packets bytes))
arrives_standing f t balance residual start {held} {lengths} {tags} {marks} {packets} {bytes} class p {r = r} e x =
    subst (λ (s : Stand). Arrives (f s) class p (arrival_leaves r
    (link_at false t s balance residual start held lengths tags marks packets bytes)))
    e x

pub sends_standing : (f : Stand → Link) (w : Went) (after : Link) (d : Departure) {s s' : Stand} → s ≡ s' → Shaped (f s)
    → SoundLink (f s) → d ≡ went_answers w → w.stand.charged ≡ after.totals.charged → Departs (f s) w after
    → Sends (f s') (send_leaves d after)
sends_standing f w after d {s = s} e shape sound said total departs =
    subst (λ (x : Stand). Sends (f x) (send_leaves d after)) e
    (sends_by_lem (f s) true (send_leaves d after) shape (exactly_yes sound)
    (ap (λ (x : Departure). send_leaves x after) said ∙ departs_answers (f s) w after total departs))

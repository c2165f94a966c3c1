-- What the inner steps of a run without text say; no rule of its own.
use Rattle.plan.specs.declared.event.Event.TheVariants.{Arrive, SendNext}
use Rattle.checks.specs.declared.Refusal.TheVariants.{NotSound, NothingWaits}
use Rattle.std.specs.Prelude.{Bool, true, false, cond, List, ◌≡◌, ℕ, ◌+◌, ◌/◌, length, drop, Ok, Err, Some, None}
use Rattle.checks.specs.Check.{Exactly, Verdict, refusal_at}
use Rattle.plan.specs.declared.Arrived.{Arrived}
use Rattle.plan.specs.Event.{used_of, event_at, EventRead}
use Rattle.state.specs.declared.Link.{Link}
use Rattle.state.specs.Mark.{since}
use Rattle.state.specs.Queue.{Shaped}
use Rattle.sound.specs.Sound.{SoundLink}
use Rattle.calls.specs.Run.{arrival, send, Made, link_left, makes}
use Rattle.digits.specs.Laid.{LaidAt}
use Rattle.steps.specs.declared.Stand.{Stand}
use Rattle.steps.specs.declared.Went.{Went}
use Rattle.run.specs.Event.{packet_in}
use Rattle.answers.specs.declared.Kind.TheVariants.{Send}
use Rattle.answers.specs.declared.Reply.{Reply}
use Rattle.answers.specs.declared.CallsDone.{CallsDone}
use Rattle.answers.specs.declared.event.Heard.{Heard}
use Rattle.answers.specs.Reply.{reply_to, row_of, rows_of, last_reply}
use Rattle.answers.specs.Burst.{CallsMade, calls_from}

-- an arrival with these numbers
abbrev pub arrived_with : ℕ → ℕ → ℕ → Arrived
arrived_with class length tag = record { class = class; length = length; tag = tag }

-- an arrival on a link that is sound or is not: its reply, and the link after it
abbrev pub ArrivesAs : Bool → Link → Arrived → Reply → Link → Type 0
ArrivesAs sound l a r after =
    let m = makes sound l (arrival a.class (packet_in a)) in (r ≡ reply_to m) × (after ≡ link_left m)

-- why a send sends nothing
abbrev pub why_nothing : Bool → Verdict
why_nothing true = Err (refusal_at NothingWaits 0)
why_nothing false = Err (refusal_at NotSound 0)

-- a send: what the step gives has its reply, and the link after it
abbrev pub send_reply : Verdict → ℕ → ℕ → ℕ → ℕ → ℕ → Reply
send_reply verdict class length tag waited rounds = record {
  kind = Send;
  verdict = verdict;
  class = class;
  length = length;
  tag = tag;
  bytes = waited;
  rounds = rounds;
}

abbrev pub went_replies : Bool → Went → Reply
went_replies sound w =
    cond w.some
    (send_reply (Ok tt) w.class w.packet.length w.packet.tag (since w.stand.charged w.packet.mark) w.rounds)
    (send_reply (why_nothing sound) 0 0 0 0 0)

abbrev pub DepartsAs : Bool → Link → Went → Link → Type 0
DepartsAs sound l w after = let m = makes sound l send in (went_replies sound w ≡ reply_to m) × (after ≡ link_left m)

-- what an event gives beside the arrays
abbrev pub heard_by : Bool → Reply → Bool → ℕ → Stand → Heard
heard_by sound reply more place stand = record { sound = sound; reply = reply; more = more; place = place; stand = stand }

-- it was decided whether a link is sound, and its lists have the lengths of its arrays
pub record Told (sound : Bool) (l : Link) : Type 0 where
  pub exactly : Exactly sound (SoundLink l)
  pub shape : Shaped l

-- ---- one event

-- what an event gives: a reply, and whether the run goes on, with which link and at which place
pub record Next : Type 0 where
  pub reply : Reply
  pub more : Bool
  pub link : Link
  pub place : ℕ

abbrev pub next_by : Made → ℕ → Next
next_by m place = record { reply = reply_to m; more = true; link = link_left m; place = place }

abbrev pub last_next : Verdict → Link → ℕ → Next
last_next verdict l place = record { reply = last_reply verdict; more = false; link = l; place = place }

abbrev pub next_gives : Bool → Link → ℕ → EventRead → Next
next_gives sound l place (Ok None) = last_next (Ok tt) l place
next_gives sound l place (Ok (Some (Arrive a))) = next_by (makes sound l (arrival a.class (packet_in a))) (place + used_of (Ok (Some (Arrive a))))
next_gives sound l place (Ok (Some SendNext)) = next_by (makes sound l send) (place + used_of (Ok (Some SendNext)))
next_gives sound l place (Err e) = last_next (Err e) l place

-- an event at a place, on a link of which it is told whether it is sound: what it gives, and the link after it is as sound as before
pub record Hears (sound : Bool) (l : Link) (input : List ℕ) (place : ℕ) (r : Heard) (after : Link) : Type 0 where
  pub next : record { reply = r.reply; more = r.more; link = after; place = r.place }
      ≡ next_gives sound l place (event_at (drop place input) place)
  pub told : Told sound after
  pub same : r.sound ≡ sound

-- ---- calls one after the other

-- the row of a call is laid; an event that is no call has none
abbrev pub Laid : Bool → Reply → ℕ → List ℕ → ℕ → List ℕ → Type 0
Laid true reply at before r out = LaidAt at (row_of reply) before r out
Laid false reply at before r out = (r ≡ at) × (out ≡ before)

-- what ended the calls
abbrev pub ended_by : Bool → Verdict → Verdict
ended_by true verdict = Ok tt
ended_by false verdict = verdict

-- calls on a sound link: the rows are laid from the buffer's start on, and the link is the one that the last call left
pub record Served (l : Link) (input : List ℕ) (place : ℕ) (before : List ℕ) (r : CallsDone) (out : List ℕ) (after : Link) : Type 0 where
  pub made : CallsMade
  pub calls : made ≡ calls_from (length before / 8) l input place
  pub rows : LaidAt 0 (rows_of made.made) before r.laid out
  pub count : r.laid / 8 ≡ length made.made
  pub link : after ≡ made.link
  pub place_after : r.run.place ≡ made.place
  pub verdict : ended_by r.run.more r.run.reply.verdict ≡ made.verdict
  pub told : Told true after

-- A reply has the kind of an event and is refused, if at all, with one of the 22 that docs/refusals.md tells of; so has each row of a burst,
-- and what ends it (R4, R339). Demand 1.
use mathlib.Core.Bool.{Bool, true, false}
use mathlib.Core.List.{List, [], ◌∷◌}
use mathlib.Core.Path.{◌≡◌, ap}
use Prim.Native.Nat.{ℕ, zero, suc, ◌+◌, ◌/◌}
use native.Mathlib.Omega.{arith}
use Rattle.std.specs.Prelude.{drop, length, Some, None, Ok, Err}
use Rattle.checks.specs.Check.{Listed}
use Rattle.state.specs.declared.Link.{Link}
use Rattle.plan.specs.declared.event.Event.TheVariants.{Arrive, SendNext}
use Rattle.plan.specs.Event.{EventRead, verdict_of, event_at, used_of}
use Rattle.plan.proofs.Listed.{event_listed}
use Rattle.calls.specs.Run.{Call, arrival, send, Made, makes, link_left}
use Rattle.calls.proofs.Listed.{arrival_of_listed, send_of_listed}
use Rattle.answers.specs.declared.Kind.{Kind}
use Rattle.answers.specs.declared.Kind.TheVariants.{Last, Arrival, Send, Other}
use Rattle.answers.specs.declared.Reply.{Reply}
use Rattle.answers.specs.declared.BurstEnd.{BurstEnd}
use Rattle.answers.specs.declared.event.Heard.{Heard}
use Rattle.answers.specs.Reply.{reply_to}
use Rattle.run.specs.Event.{packet_in}
use Rattle.answers.specs.Burst.{CallsMade, made_by, calls_from, burst_of, Bursts}
use Rattle.answers.specs.Steps.{Next, next_gives, Hears}

abbrev pub Named : Kind → Type 0
Named Last = Unit {0}
Named Arrival = Unit {0}
Named Send = Unit {0}
Named (Other _) = ⊥

abbrev pub ReplyListed : Reply → Type 0
ReplyListed r = Named r.kind × Listed r.verdict

call_listed : (sound : Bool) (l : Link) (call : Call) → ReplyListed (reply_to (makes sound l call))
call_listed sound l (arrival class p) = (tt, arrival_of_listed sound l class p)
call_listed sound l send = (tt, send_of_listed sound l)

-- a reply
next_listed : (sound : Bool) (l : Link) (place : ℕ) (e : EventRead) → Listed (verdict_of e) → ReplyListed (next_gives sound l place e).reply
next_listed sound l place (Ok None) h = (tt, tt)
next_listed sound l place (Ok (Some (Arrive a))) h = call_listed sound l (arrival a.class (packet_in a))
next_listed sound l place (Ok (Some SendNext)) h = call_listed sound l send
next_listed sound l place (Err e) h = (tt, h)

pub reply_listed : {sound : Bool} {l after : Link} {input : List ℕ} {place : ℕ} {r : Heard} → Hears sound l input place r after → ReplyListed r.reply
reply_listed {sound} {l} {after} {input} {place} {r} a =
    let same : r.reply ≡ (next_gives sound l place (event_at (drop place input) place)).reply = ap (λ (n : Next). n.reply) a.next in
    rw same (next_listed sound l place (event_at (drop place input) place) (event_listed (drop place input) place))

-- the calls of a burst, and what ends it
abbrev pub EachReply : List Made → Type 0
EachReply [] = Unit {0}
EachReply (m ∷ rest) = ReplyListed (reply_to m) × EachReply rest

abbrev pub CallsListed : CallsMade → Type 0
CallsListed c = EachReply c.made × Listed c.verdict

made_listed : (e : EventRead) (l : Link) (place : ℕ) (later : Link → ℕ → CallsMade) → Listed (verdict_of e)
    → ((after : Link) (next : ℕ) → CallsListed (later after next)) → CallsListed (made_by e l place later)
made_listed (Ok None) l place later h k = (tt, tt)
made_listed (Ok (Some (Arrive a))) l place later h k =
    let call : Call = arrival a.class (packet_in a) in
    let rest = k (link_left (makes true l call)) (place + used_of (Ok (Some (Arrive a)))) in
    ((call_listed true l call, rest.0), rest.1)
made_listed (Ok (Some SendNext)) l place later h k =
    let rest = k (link_left (makes true l send)) (place + used_of (Ok (Some SendNext))) in
    ((call_listed true l send, rest.0), rest.1)
made_listed (Err e) l place later h k = (tt, h)

calls_listed : (n : ℕ) (l : Link) (input : List ℕ) (place : ℕ) → CallsListed (calls_from n l input place)
unfolding calls_from
calls_listed zero l input place = (tt, tt)
calls_listed (suc n) l input place =
    made_listed (event_at (drop place input) place) l place (λ after next. calls_from n after input next) (event_listed (drop place input) place)
    (λ after next. calls_listed n after input next)

burst_of_listed : (sound : Bool) (l : Link) (input : List ℕ) (place : ℕ) (before : List ℕ) → CallsListed (burst_of sound l input place before)
burst_of_listed true l input place before = calls_listed (length before / 8) l input place
burst_of_listed false l input place before = (tt, (omega arith, omega arith))

-- the rows that a burst lays are those of these calls (`Bursts.rows`)
pub burst_listed : {l after : Link} {input before out : List ℕ} {place : ℕ} {r : BurstEnd} → (b : Bursts l input place before r out after)
    → Listed r.verdict × EachReply (burst_of b.sound l input place before).made
burst_listed {l} {after} {input} {before} {out} {place} {r} b =
    let all = burst_of_listed b.sound l input place before in
    (rw b.answer all.1, all.0)

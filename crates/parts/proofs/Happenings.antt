-- Events on a link whose fields are lent: what they answer has the line of the run, and the run goes on as it does. Demand 2.
use mathlib.Core.Bool.{Bool, true}
use mathlib.Core.List.{List}
use mathlib.Core.Path.{◌≡◌, refl, sym, ap, subst, ◌∙◌}
use Prim.Native.Nat.{ℕ, ◌+◌}
use lib.ListN.{drop}
use Rattle.plan.specs.declared.event.Event.TheVariants.{Arrive, SendNext}
use Rattle.checks.specs.Check.{Verdict}
use Rattle.std.specs.Prelude.{Ok, Err, Some, None}
use Rattle.plan.specs.Event.{used_of, event_at, EventRead}
use Rattle.state.specs.declared.Link.{Link}
use Rattle.state.specs.State.{meaning}
use Rattle.calls.specs.declared.Departure.{Departure}
use Rattle.calls.specs.Send.{send_of}
use Rattle.calls.specs.Run.{arrival, send, link_left, makes, waiting_in}
use Rattle.calls.proofs.Runs.{rules_meet}
use Rattle.run.specs.declared.Step.{Step}
use Rattle.run.specs.Event.{packet_in, send_says, event_gives, Gives, GoesOn}
use Rattle.lines.specs.declared.Line.{Line}
use Rattle.answers.specs.declared.event.Heard.{Heard}
use Rattle.answers.specs.Steps.{Told, Next, next_gives, Hears}
use Rattle.parts.specs.Steps.{LaysLine, gone_says, reply_says}

-- the same line, by another name
pub lays_as : (at r : ℕ) (before out : List ℕ) {line line' : Line} → line ≡ line' → LaysLine at line' before r out
    → LaysLine at line before r out
lays_as at r before out e lays = subst (λ (x : Line). LaysLine at x before r out) (sym e) lays

-- the line of a send that goes, or of none
gone_same : (v : Verdict) (d : Departure) → gone_says v d.class d.length d.tag d.rounds d.waited ≡ send_says v d
gone_same (Ok _) d = refl
gone_same (Err _) d = refl

-- a step with the line of a reply
abbrev step_from : Next → Step
step_from x = record {
  line = reply_says x.reply (waiting_in (meaning x.link));
  more = x.more;
  link = x.link;
  place = x.place;
}

module _ (l : Link) (input : List ℕ) (place : ℕ) (sound : Bool) (told : Told sound l) where
  -- it is the step of the run
  step_same : (e : EventRead) → step_from (next_gives sound l place e) ≡ event_gives sound l place e
  step_same (Ok None) = refl
  step_same (Ok (Some (Arrive a))) = refl
  step_same (Ok (Some SendNext)) =
      let m = makes sound l send in
      let d = (send_of sound l).answer in
      ap (λ (x : Line). record { line = x; more = true; link = link_left m; place = place + used_of (Ok (Some SendNext)) }) (gone_same d.verdict d)
  step_same (Err _) = refl

  gives_it : (e : EventRead) (s : Step) → s ≡ event_gives sound l place e → Gives l place e s
  gives_it (Ok None) s is = is
  gives_it (Ok (Some (Arrive a))) s is = record {
    answer = _;
    after = _;
    meets = rules_meet l (arrival a.class (packet_in a)) sound told.exactly told.shape;
    step = is;
  }
  gives_it (Ok (Some SendNext)) s is = record {
    answer = _;
    after = _;
    meets = rules_meet l send sound told.exactly told.shape;
    step = is;
  }
  gives_it (Err _) s is = is

  pub event_goes : (r : Heard) (after : Link) → Hears sound l input place r after
      → GoesOn l input place
      (record { line = reply_says r.reply (waiting_in (meaning after)); more = r.more; link = after; place = r.place })
  event_goes r after h =
      let e = event_at (drop place input) place in
      gives_it e _ (ap step_from h.next ∙ step_same e)

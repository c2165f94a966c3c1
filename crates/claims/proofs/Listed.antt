-- A recording is refused, if at all, with one of the 22 that docs/refusals.md tells of, whatever bytes it has, whole and in parts (R4).
-- Demand 1.
use mathlib.Core.Bool.{Bool, true, false}
use mathlib.Core.List.{List}
use Prim.Native.Nat.{ℕ, zero, suc}
use native.Mathlib.Omega.{arith}
use Rattle.std.specs.Prelude.{cond, drop, length, Some, None, Ok, Err}
use Rattle.checks.specs.Check.{Verdict, Listed}
use Rattle.plan.specs.declared.PlanRead.{PlanRead}
use Rattle.plan.specs.declared.entry.Entry.TheVariants.{Arrives, Claims}
use Rattle.plan.specs.Entry.{EntryRead, entry_at}
use Rattle.plan.specs.Reader.{plan_of}
use Rattle.plan.proofs.Listed.{plan_listed, entry_listed, stops_with}
use Rattle.state.specs.declared.Link.{Link}
use Rattle.calls.specs.Fresh.{fresh_of}
use Rattle.calls.specs.Send.{send_of}
use Rattle.claims.specs.declared.Judged.{Judged}
use Rattle.claims.specs.declared.Judged.TheVariants.{Good, FalseAt, Stop}
use Rattle.claims.specs.declared.Checked.{Checked}
use Rattle.claims.specs.Parts.{begins_with, check_begins, fits, part_gives, JudgesPart}
use Rattle.claims.specs.Recording.{goes_on, true_claim, same_claim, call_gives, after_arrival, claim_gives, entry_gives, Way, way_from, onward, takes_one, takes, part_of, plan_judges, judged_of}

abbrev pub StopListed : Judged → Type 0
StopListed (Good claims) = Unit {0}
StopListed (FalseAt place) = Unit {0}
StopListed (Stop e) = Listed (Err e)

gives_listed : (e : EntryRead) (l : Link) (place claims : ℕ) → Listed (stops_with e) → StopListed (entry_gives l place claims e).judged
gives_listed (Ok None) l place claims h = tt
gives_listed (Ok (Some (Arrives a))) l place claims h = go (call_gives l a).answer.verdict
  where
    go : (v : Verdict) → StopListed (after_arrival v l (call_gives l a).link place claims).judged
    go (Ok _) = tt
    go (Err _) = tt
gives_listed (Ok (Some (Claims c))) l place claims h = go (same_claim c (true_claim (send_of true l).answer))
  where
    go : (b : Bool) → StopListed (claim_gives b (send_of true l).link c place claims).judged
    go true = tt
    go false = tt
gives_listed (Err e) l place claims h = h

takes_listed : (n : ℕ) (last : Bool) (w : Way) → StopListed w.at.judged → StopListed (takes n last w).at.judged
unfolding takes onward
takes_listed zero last w h = h
takes_listed (suc n) last w h =
    go (takes_one last w) (takes_listed n last (onward w) (gives_listed (entry_at w.rest) w.at.link w.at.place w.at.claims (entry_listed w.rest)))
  where
    go : (b : Bool) → StopListed (takes n last (onward w)).at.judged → StopListed (cond b (takes n last (onward w)) w).at.judged
    go true later = later
    go false later = h

pub judged_listed : (input : List ℕ) → StopListed (judged_of input)
unfolding judged_of part_of
judged_listed input = go (plan_of input).verdict (plan_listed input)
  where
    read : PlanRead
    read = plan_of input

    go : (v : Verdict) → Listed v → StopListed (plan_judges v read input)
    go (Ok _) h = takes_listed (suc (length (drop read.used input))) true (way_from (fresh_of true read.tree).link read.used 0 (drop read.used input)) tt
    go (Err e) h = h

pub begin_listed : (window : List ℕ) → StopListed (check_begins window).judged
unfolding check_begins
begin_listed window = go (plan_of window).verdict (plan_listed window)
  where
    go : (v : Verdict) → Listed v → StopListed (begins_with v (plan_of window)).judged
    go (Ok _) h = tt
    go (Err e) h = h

pub part_listed : {last : Bool} {l : Link} {place claims : ℕ} {part : List ℕ} {r : Checked} → JudgesPart last l place claims part r → StopListed r.judged
unfolding part_of
part_listed {last} {l} {place} {claims} {part} {r} a = rw a.answer (go a.sound)
  where
    fitting : (b : Bool) → StopListed (cond b (part_of last (way_from l place claims part)).at (goes_on l place claims)).judged
    fitting true = takes_listed (suc (length part)) last (way_from l place claims part) tt
    fitting false = tt

    go : (sound : Bool) → StopListed (part_gives sound last l place claims part).judged
    go true = fitting (fits place claims (length part))
    go false = (omega arith, omega arith)

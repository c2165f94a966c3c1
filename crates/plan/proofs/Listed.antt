-- What the readers refuse with is one of the 22 that docs/refusals.md tells of, whatever bytes they are given (R4). Demand 1.
use mathlib.Core.Bool.{Bool, true, false}
use mathlib.Core.List.{List, []}
use Prim.Native.Nat.{ℕ, ◌+◌}
use native.Mathlib.Omega.{arith}
use Rattle.std.specs.Prelude.{cond, drop, Option, Some, None, Ok, Err}
use Rattle.checks.specs.Check.{first_broken, Verdict, Listed}
use Rattle.checks.proofs.Listed.{EachListed, first_listed, both_listed}
use Rattle.tree.specs.declared.Tree.{Tree}
use Rattle.tree.specs.Class.{added}
use Rattle.tree.specs.Rules.{closing_checks}
use Rattle.tree.proofs.Listed.{class_checks_listed, closing_checks_listed}
use Rattle.plan.specs.declared.entry.Entry.TheVariants.{Arrives, Claims}
use Rattle.plan.specs.declared.event.Event.{Event}
use Rattle.plan.specs.declared.event.Event.TheVariants.{Arrive, SendNext}
use Rattle.plan.specs.Kind.{gives_class, gives_arrival}
use Rattle.plan.specs.Record.{kind_at, missing, class_at, body_of}
use Rattle.plan.specs.Reader.{head_checks, rule_checks, new_class_checks, whole_checks, record_checks, tree_of, after, checks_of, passed_over, deciding_checks, outcome, plan_of, records_of}
use Rattle.plan.specs.Event.{arrived_of, event_checks, verdict_of, event_of, judged, event_at}
use Rattle.plan.specs.Entry.{EntryRead, claim_in, claim_checks, entry_checks, stopped_by, claim_after, entry_of, entry_at}

-- the verdict of each case of the answer of the reader of recordings
abbrev pub stops_with : EntryRead → Verdict
stops_with (Ok _) = Ok tt
stops_with (Err e) = Err e

-- a plan's records, and what comes after the end record
new_class_listed : (t : Tree) (place : ℕ) → EachListed (new_class_checks t place)
new_class_listed t place = ((omega arith, omega arith), class_checks_listed t t.count place)

whole_listed : (rest : List ℕ) (place : ℕ) (t : Tree) → EachListed (whole_checks rest place t)
whole_listed rest place t =
    both_listed (rule_checks rest place) (cond (gives_class (kind_at rest)) (new_class_checks (added t (class_at rest)) place) [])
    ((omega arith, omega arith), ((omega arith, omega arith), tt))
    (go (gives_class (kind_at rest)))
  where
    go : (b : Bool) → EachListed (cond b (new_class_checks (added t (class_at rest)) place) [])
    go true = new_class_listed (added t (class_at rest)) place
    go false = tt

record_listed : (input : List ℕ) (k : ℕ) → EachListed (checks_of input k)
unfolding record_checks
record_listed input k =
    both_listed (head_checks input (after input k)) (whole_checks (drop (after input k) input) (after input k) (tree_of input k))
    ((omega arith, omega arith), ((omega arith, omega arith), ((omega arith, omega arith), tt)))
    (whole_listed (drop (after input k) input) (after input k) (tree_of input k))

outcome_listed : (v : Verdict) (t : Tree) (used : ℕ) → Listed v → Listed (outcome v t used).verdict
outcome_listed (Ok _) t used h = tt
outcome_listed (Err e) t used h = h

pub plan_listed : (input : List ℕ) → Listed (plan_of input).verdict
unfolding plan_of deciding_checks
plan_listed input =
    let k = passed_over input in
    outcome_listed (first_broken (deciding_checks input k)) (tree_of input k) (after input k + 1)
    (first_listed (deciding_checks input k)
    (both_listed (checks_of input k) (closing_checks (tree_of input k)) (record_listed input k) (closing_checks_listed (tree_of input k))))

pub records_listed : (input : List ℕ) → Listed (records_of input).verdict
unfolding records_of
records_listed input =
    let k = passed_over input in
    outcome_listed (first_broken (checks_of input k)) (tree_of input k) (after input k + 1)
    (first_listed (checks_of input k) (record_listed input k))

-- an event
no_refusal : (e : Option Event) → Listed (verdict_of (Ok e))
no_refusal None = tt
no_refusal (Some (Arrive a)) = tt
no_refusal (Some SendNext) = tt

pub event_listed : (rest : List ℕ) (place : ℕ) → Listed (verdict_of (event_at rest place))
unfolding event_at event_of
event_listed rest place = go (missing rest)
  where
    of_verdict : (v : Verdict) (arrival : Bool) → Listed v
        → Listed (verdict_of (judged v (cond arrival (Ok (Some (Arrive (arrived_of (body_of rest))))) (Ok (Some SendNext)))))
    of_verdict (Ok _) true h = tt
    of_verdict (Ok _) false h = tt
    of_verdict (Err e) arrival h = h

    go : (b : Bool) → Listed (verdict_of (cond b (Ok None) (judged (first_broken (event_checks rest place)) (event_of rest))))
    go true = no_refusal None
    go false = of_verdict (first_broken (event_checks rest place)) (gives_arrival (kind_at rest))
        (first_listed (event_checks rest place) ((omega arith, omega arith), ((omega arith, omega arith), tt)))

-- an entry of a recording
stopped_listed : (v : Verdict) (e : EntryRead) → Listed v → Listed (stops_with e) → Listed (stops_with (stopped_by v e))
stopped_listed (Ok _) e h k = k
stopped_listed (Err r) e h k = h

claim_listed : (next : List ℕ) → Listed (stops_with (claim_after next))
unfolding claim_after
claim_listed next =
    stopped_listed (first_broken (claim_checks next)) (Ok (Some (Claims (claim_in next))))
    (first_listed (claim_checks next) ((omega arith, omega arith), ((omega arith, omega arith), tt)))
    tt

pub entry_listed : (rest : List ℕ) → Listed (stops_with (entry_at rest))
unfolding entry_at entry_of
entry_listed rest = go (missing rest)
  where
    judged_entry : (b : Bool) → Listed (stops_with (cond b (Ok (Some (Arrives (arrived_of (body_of rest))))) (claim_after (drop 1 rest))))
    judged_entry true = tt
    judged_entry false = claim_listed (drop 1 rest)

    go : (b : Bool) → Listed (stops_with (cond b (Ok None) (stopped_by (first_broken (entry_checks rest)) (entry_of rest))))
    go true = tt
    go false = stopped_listed (first_broken (entry_checks rest)) (entry_of rest)
        (first_listed (entry_checks rest) ((omega arith, omega arith), ((omega arith, omega arith), ((omega arith, omega arith), tt))))
        (judged_entry (gives_arrival (kind_at rest)))

-- What a recording is judged to be (R295 to R300, R303, R307): a plan, then entry after entry by our rules, from a fresh link; the first
-- that is malformed or a false claim decides. Demands 1 and 2.
use Rattle.plan.specs.declared.entry.Entry.TheVariants.{Arrives, Claims}
use Rattle.checks.specs.Check.{Verdict, refusal_at}
use Rattle.std.specs.Prelude.{Bool, true, false, cond, ◌&&◌, ◌||◌, List, ℕ, zero, suc, ◌+◌, ◌-◌, eqb, leb, length, drop, Ok, Err, Some, None}
use Rattle.plan.specs.declared.Arrived.{Arrived}
use Rattle.plan.specs.declared.PlanRead.{PlanRead}
use Rattle.plan.specs.Entry.{entry_at, claim_uses, longest_entry, EntryRead, Claim}
use Rattle.plan.specs.Reader.{plan_of}
use Rattle.state.specs.declared.Link.{Link}
use Rattle.calls.specs.declared.AfterArrival.{AfterArrival}
use Rattle.calls.specs.declared.Departure.{Departure}
use Rattle.calls.specs.Arrival.{arrival_of}
use Rattle.calls.specs.Fresh.{fresh_of}
use Rattle.calls.specs.Send.{send_of}
use Rattle.claims.specs.declared.Judged.{Judged}
use Rattle.claims.specs.declared.Judged.TheVariants.{Good, FalseAt, Stop}
use Rattle.claims.specs.declared.Checked.{Checked}

-- ---- one claim

-- the claim that a send's answer makes true: its class, length and tag, or nothing waiting (R295)
abbrev pub claim_by : Verdict → Departure → Claim
claim_by (Ok _) d = Some (record { class = d.class; length = d.length; tag = d.tag })
claim_by (Err _) d = None

abbrev pub true_claim : Departure → Claim
true_claim d = claim_by d.verdict d

-- two claims are the same in kind, class, length and tag (R296)
abbrev pub same_packet : Arrived → Arrived → Bool
same_packet a b = eqb a.class b.class && (eqb a.length b.length && eqb a.tag b.tag)

abbrev pub same_claim : Claim → Claim → Bool
same_claim (Some a) (Some b) = same_packet a b
same_claim (Some a) None = false
same_claim None (Some b) = false
same_claim None None = true

-- ---- one entry

-- so far all is good, and the check goes on with a link, at a place, after so many claims
abbrev pub goes_on : Link → ℕ → ℕ → Checked
goes_on l place claims = record { judged = Good claims; more = true; link = l; place = place; claims = claims }

-- an entry decides, and nothing after it is judged
abbrev pub decides : Judged → Link → ℕ → ℕ → Checked
decides j l place claims = record { judged = j; more = false; link = l; place = place; claims = claims }

-- a claim that is the true one is counted; a false one decides, at its own place, one past its send's. The link is the one after the send
-- (R298, R307)
abbrev pub claim_gives : Bool → Link → Claim → ℕ → ℕ → Checked
claim_gives true after c place claims = goes_on after (place + (1 + claim_uses c)) (claims + 1)
claim_gives false after c place claims = decides (FalseAt (place + 1)) after place claims

-- what the call gives that an arrival makes
abbrev pub call_gives : Link → Arrived → AfterArrival
call_gives l a = arrival_of true l a.class (record { length = a.length; tag = a.tag })

-- an arrival that our rules take goes on with the link after it; one that they refuse is passed over and alters nothing (R297)
abbrev pub after_arrival : Verdict → Link → Link → ℕ → ℕ → Checked
after_arrival (Ok _) l after place claims = goes_on after (place + 8) claims
after_arrival (Err _) l after place claims = goes_on l (place + 8) claims

-- what an entry at a place gives, on a sound link: an arrival is made as a call; a send is made and its claim compared with what it
-- answers; the end of input is good; a malformed entry decides (R297 to R299)
abbrev pub entry_gives : Link → ℕ → ℕ → EntryRead → Checked
entry_gives l place claims (Ok None) = decides (Good claims) l place claims
entry_gives l place claims (Ok (Some (Arrives a))) = after_arrival (call_gives l a).answer.verdict l (call_gives l a).link place claims
entry_gives l place claims (Ok (Some (Claims c))) = claim_gives (same_claim c (true_claim (send_of true l).answer)) (send_of true l).link c place claims
entry_gives l place claims (Err e) = decides (Stop (refusal_at e.0 (place + e.1))) l place claims

-- ---- entry after entry

-- how far a check has come: what it gives so far, and the bytes that follow
pub record Way : Type 0 where
  pub at : Checked
  pub rest : List ℕ

abbrev pub way_from : Link → ℕ → ℕ → List ℕ → Way
way_from l place claims rest = record { at = goes_on l place claims; rest = rest }

-- the bytes that follow after a check has moved on from a place
abbrev pub moved : ℕ → List ℕ → Checked → Way
moved place rest to = record { at = to; rest = drop (to.place - place) rest }

-- one entry more (R297)
unfoldable pub onward : Way → Way
onward w = moved w.at.place w.rest (entry_gives w.at.link w.at.place w.at.claims (entry_at w.rest))

-- one entry more is judged where none has decided; before the last part of the input only where as many bytes follow as the longest entry
-- has, so that no entry is judged before it is there (R303)
abbrev pub takes_one : Bool → Way → Bool
takes_one last w = w.at.more && (last || leb longest_entry (length w.rest))

-- entry after entry; n is more than there can be (R303)
unfoldable pub takes : ℕ → Bool → Way → Way
takes zero last w = w
takes (suc n) last w = cond (takes_one last w) (takes n last (onward w)) w

-- a part of the input, the last or not (R303)
unfoldable pub part_of : Bool → Way → Way
part_of last w = takes (suc (length w.rest)) last w

-- ---- a recording

-- a refused plan is refused as the reader gives it; else the entries after it are judged from a fresh link, as one last part (R300)
abbrev pub plan_judges : Verdict → PlanRead → List ℕ → Judged
plan_judges (Ok _) read input = (part_of true (way_from (fresh_of true read.tree).link read.used 0 (drop read.used input))).at.judged
plan_judges (Err e) read input = Stop e

-- what a recording is judged to be: good, with the number of its claims; or the place of its first false claim; or a refusal's number and
-- place (R300)
unfoldable pub judged_of : List ℕ → Judged
judged_of input = plan_judges (plan_of input).verdict (plan_of input) input

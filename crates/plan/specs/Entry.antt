-- What the reader of recordings says of the rest of the input: an arrival, or a send with the claim directly after it (R286 to R294).
-- Demand 1.
use Rattle.checks.specs.declared.Refused.{Refused}
use Rattle.plan.specs.declared.Arrived.{Arrived}
use Rattle.plan.specs.declared.entry.Entry.{Entry}
use Rattle.plan.specs.declared.entry.Entry.TheVariants.{Arrives, Claims}
use Rattle.checks.specs.declared.Refusal.TheVariants.{Cut, UnknownKind, Unpaired}
use Rattle.std.specs.Prelude.{cond, ◌||◌, List, [], ◌∷◌, ℕ, drop, Option, Some, None, Result, Ok, Err}
use Rattle.checks.specs.Check.{Check, check, first_broken, Verdict}
use Rattle.plan.specs.declared.kind.Section.TheVariants.{Recordings, AfterSend}
use Rattle.plan.specs.Kind.{gives_arrival, gives_claim, gives_sent}
use Rattle.plan.specs.Record.{kind_at, missing, unknown, cut, body_of}
use Rattle.plan.specs.Event.{arrived_of}

-- a claim: the packet that was sent, or that none waited (R286, R287)
abbrev pub Claim : Type 0
Claim = Option Arrived

-- what the reader of recordings says: an entry, none where the input has ended, or what is refused (R289 to R293)
abbrev pub EntryRead : Type 0
EntryRead = Result (Option Entry) Refused

-- a claim: kind 18 with class, length and tag as in an arrival, or kind 19 for nothing waiting (R286, R287)
unfoldable pub claim_in : List ℕ → Claim
claim_in next = cond (gives_sent (kind_at next)) (Some (arrived_of (body_of next))) None

-- what stands after a send is checked in the order 19, at the send: its kind byte is missing or neither 18 nor 19; 1, at the claim: it is
-- cut. Places count from the entry's first byte (R290, R291)
abbrev pub claim_checks : List ℕ → List Check
claim_checks next = check Unpaired (missing next || unknown AfterSend next) 0 ∷ check Cut (cut next) 1 ∷ []

-- any other record in the order 2, 1, and 19: a claim without a send directly before it; at its first byte (R291, R292)
abbrev pub entry_checks : List ℕ → List Check
entry_checks rest = check UnknownKind (unknown Recordings rest) 0 ∷ check Cut (cut rest) 0 ∷ check Unpaired (gives_claim (kind_at rest)) 0 ∷ []

abbrev pub stopped_by : Verdict → EntryRead → EntryRead
stopped_by (Ok _) e = e
stopped_by (Err r) e = Err r

-- a send, with what stands after it (R289, R290)
unfoldable pub claim_after : List ℕ → EntryRead
claim_after next = stopped_by (first_broken (claim_checks next)) (Ok (Some (Claims (claim_in next))))

-- the entry of a record that passed its checks (R289)
unfoldable pub entry_of : List ℕ → EntryRead
entry_of rest = cond (gives_arrival (kind_at rest)) (Ok (Some (Arrives (arrived_of (body_of rest))))) (claim_after (drop 1 rest))

-- the end of input between entries is the normal end (R289, R293)
unfoldable pub entry_at : List ℕ → EntryRead
entry_at rest = cond (missing rest) (Ok None) (stopped_by (first_broken (entry_checks rest)) (entry_of rest))

-- the bytes of a claim (R294)
abbrev pub claim_uses : Claim → ℕ
claim_uses (Some a) = 8
claim_uses None = 1

-- no entry has more bytes: a send and a claim that a packet was sent (R294)
abbrev pub longest_entry : ℕ
longest_entry = 9

-- The table of kinds (R40 to R47, R286 to R288): kind byte, length of the body, where the kind may stand, what its record gives. A kind is
-- one row here, and one in the code's table (src/kind.rt). Demand 1.
use Rattle.std.specs.Prelude.{Bool, true, false, cond, ℕ, eqb}
use Rattle.plan.specs.declared.kind.RecordKind.{RecordKind}
use Rattle.plan.specs.declared.kind.Given.{Given}
use Rattle.plan.specs.declared.kind.Given.TheVariants.{End, Inner, Leaf, Rule, Arrival, Send, SentClaim, IdleClaim, Nothing}
use Rattle.plan.specs.declared.kind.Section.{Section}
use Rattle.plan.specs.declared.kind.Section.TheVariants.{Plan, Events, Recordings, AfterSend}

-- a row: the length of the body, whether the kind may stand inside a plan, whether among events, whether in a recording, and what its
-- record gives
abbrev pub kind_row : ℕ → Bool → Bool → Bool → Given → RecordKind
kind_row body plan events recordings gives = record { body = body; plan = plan; events = events; recordings = recordings; gives = gives }

-- the kind of a kind byte. Bodies: of an inner class parent 1, weight 4; of a leaf parent 1, weight 4, longest 2; of a rule the rule 1;
-- of an arrival, and of a claim that a packet was sent, class 1, length 2, tag 4; of the others none. Any other byte is unknown (R40 to
-- R47, R221, R286 to R288)
unfoldable pub record_kind : ℕ → RecordKind
record_kind byte =
    cond (eqb byte 0) (kind_row 0 true false false End)
    (cond (eqb byte 1) (kind_row 5 true false false Inner)
    (cond (eqb byte 2) (kind_row 7 true false false Leaf)
    (cond (eqb byte 3) (kind_row 1 true false false Rule)
    (cond (eqb byte 16) (kind_row 7 false true true Arrival)
    (cond (eqb byte 17) (kind_row 0 false true true Send)
    (cond (eqb byte 18) (kind_row 7 false false true SentClaim)
    (cond (eqb byte 19) (kind_row 0 false false true IdleClaim)
    (kind_row 0 false false false Nothing))))))))

-- what is a claim: that a packet was sent, or that none waited (R288)
abbrev pub claim_given : Given → Bool
claim_given End = false
claim_given Inner = false
claim_given Leaf = false
claim_given Rule = false
claim_given Arrival = false
claim_given Send = false
claim_given SentClaim = true
claim_given IdleClaim = true
claim_given Nothing = false

-- so of the record of a kind (R288)
abbrev pub gives_claim : RecordKind → Bool
gives_claim k = claim_given k.gives

-- where a kind may stand; directly after a send of a recording only a claim (R47, R288)
abbrev pub stands_in : Section → RecordKind → Bool
stands_in Plan k = k.plan
stands_in Events k = k.events
stands_in Recordings k = k.recordings
stands_in AfterSend k = gives_claim k

-- what is a class, what is a leaf, what is a rule, what is an arrival, and what is a claim that a packet was sent
abbrev pub class_given : Given → Bool
class_given End = false
class_given Inner = true
class_given Leaf = true
class_given Rule = false
class_given Arrival = false
class_given Send = false
class_given SentClaim = false
class_given IdleClaim = false
class_given Nothing = false

abbrev pub leaf_given : Given → Bool
leaf_given End = false
leaf_given Inner = false
leaf_given Leaf = true
leaf_given Rule = false
leaf_given Arrival = false
leaf_given Send = false
leaf_given SentClaim = false
leaf_given IdleClaim = false
leaf_given Nothing = false

abbrev pub rule_given : Given → Bool
rule_given End = false
rule_given Inner = false
rule_given Leaf = false
rule_given Rule = true
rule_given Arrival = false
rule_given Send = false
rule_given SentClaim = false
rule_given IdleClaim = false
rule_given Nothing = false

abbrev pub arrival_given : Given → Bool
arrival_given End = false
arrival_given Inner = false
arrival_given Leaf = false
arrival_given Rule = false
arrival_given Arrival = true
arrival_given Send = false
arrival_given SentClaim = false
arrival_given IdleClaim = false
arrival_given Nothing = false

abbrev pub sent_given : Given → Bool
sent_given End = false
sent_given Inner = false
sent_given Leaf = false
sent_given Rule = false
sent_given Arrival = false
sent_given Send = false
sent_given SentClaim = true
sent_given IdleClaim = false
sent_given Nothing = false

-- so of the record of a kind (R43, R44, R50, R221, R286)
abbrev pub gives_class : RecordKind → Bool
gives_class k = class_given k.gives

abbrev pub gives_leaf : RecordKind → Bool
gives_leaf k = leaf_given k.gives

abbrev pub gives_rule : RecordKind → Bool
gives_rule k = rule_given k.gives

abbrev pub gives_arrival : RecordKind → Bool
gives_arrival k = arrival_given k.gives

abbrev pub gives_sent : RecordKind → Bool
gives_sent k = sent_given k.gives

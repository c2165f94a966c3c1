-- The answer of a call as eight numbers (R339). Demands 1 and 2.
use Rattle.std.specs.Prelude.{List, [], ◌∷◌, ◌++◌, ℕ}
use Rattle.checks.specs.Check.{number_of, place_of, Verdict}
use Rattle.calls.specs.Run.{arrival, send, Made, made}
use Rattle.answers.specs.declared.Kind.{Kind}
use Rattle.answers.specs.declared.Kind.TheVariants.{Last, Arrival, Send, Other}
use Rattle.answers.specs.declared.Reply.{Reply}

-- the number of each kind: those of the events, and 0 of one that is no call (R339)
abbrev pub kind_number : Kind → ℕ
kind_number Last = 0
kind_number Arrival = 16
kind_number Send = 17
kind_number (Other other) = other.number

-- of an arrival: its verdict, its class, length and tag as they came, and the charged bytes then waiting in its leaf; of a send: its
-- verdict, the class, the length and the tag of the packet that goes, what it waited, and the rounds opened. The kinds are those of the
-- events (R339)
abbrev pub reply_to : Made → Reply
reply_to (made (arrival class p) answer after) = record {
  kind = Arrival;
  verdict = answer.verdict;
  class = class;
  length = p.length;
  tag = p.tag;
  bytes = answer.bytes.0;
  rounds = 0;
}
reply_to (made send answer after) = record {
  kind = Send;
  verdict = answer.verdict;
  class = answer.class;
  length = answer.length;
  tag = answer.tag;
  bytes = answer.waited;
  rounds = answer.rounds;
}

-- its numbers in a row: the kind, the refusal's number and place, and the others as they stand (R339)
abbrev pub row_of : Reply → List ℕ
row_of r =
    kind_number r.kind ∷ number_of r.verdict ∷ place_of r.verdict ∷ r.class ∷ r.length ∷ r.tag ∷ r.bytes ∷ r.rounds ∷ []

-- rows one after the other (R340)
unfoldable pub rows_of : List Made → List ℕ
rows_of [] = []
rows_of (m ∷ rest) = row_of (reply_to m) ++ rows_of rest

-- an event that is no call has a verdict alone: its record is malformed, or the input ends
abbrev pub last_reply : Verdict → Reply
last_reply verdict = record { kind = Last; verdict = verdict; class = 0; length = 0; tag = 0; bytes = 0; rounds = 0 }

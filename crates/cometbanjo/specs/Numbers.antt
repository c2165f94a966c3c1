-- What the numbers of the exported calls mean: a link's bytes, a length, an offer, a reason (R348, R351, R352). Demands 1 to 3.
use Rattle.std.specs.Prelude.{List, [], ◌∷◌, ℕ, ◌+◌, ◌*◌, min, Ok, Err}
use Rattle.checks.specs.Check.{number, number_of, place_of}
use Rattle.state.specs.declared.Packet.{Packet}
use Rattle.offered.specs.declared.Offered.{Offered}
use Rattle.reasons.specs.declared.Reason.{Reason}
use Rattle.reasons.specs.declared.Reason.TheVariants.{Empty, Waits, Short, Due}
use Rattle.reasons.specs.Answer.{Silence}

-- the bytes of a link in its arrays: of 8 bytes the shape, where it stands, four tables by class and the marks; of 4 the tags, of 2 the
-- lengths, of 1 two tables by class (R352)
abbrev pub link_bytes : ℕ
link_bytes = 8 * (195 + 4 + 4 * 64 + 2_048) + 4 * 2_048 + 2 * 2_048 + 2 * 64

-- a length above 65,535 is met as 65,535, which no leaf takes (R348)
abbrev pub met_length : ℕ → ℕ
met_length n = min n 65_535

abbrev pub packet_of : ℕ → ℕ → Packet
packet_of length tag = record { length = met_length length; tag = tag }

-- an offer: the verdict of the arrival, D, and the bound (R351)
abbrev pub offer_said : Offered → List ℕ
offer_said o = number_of o.verdict ∷ place_of o.verdict ∷ o.bytes.0 ∷ o.wait.0 ∷ []

-- a reason has a number, and one of them the bytes that are lacking (R351)
abbrev pub reason_number : Reason → ℕ
reason_number Empty = 1
reason_number Waits = 2
reason_number (Short n) = 3
reason_number Due = 4

abbrev pub lacking_of : Reason → ℕ
lacking_of Empty = 0
lacking_of Waits = 0
lacking_of (Short n) = n.0
lacking_of Due = 0

-- why a class is silent: its refusal, or 0 and 0, the reason and the bytes lacking (R351)
abbrev pub why_said : Silence → List ℕ
why_said (Ok reason) = 0 ∷ 0 ∷ reason_number reason ∷ lacking_of reason ∷ []
why_said (Err e) = number e.0 ∷ e.1 ∷ 0 ∷ 0 ∷ []

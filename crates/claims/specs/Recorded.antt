-- How a run is written as a recording (R301): each call that was made, a send with the claim that its answer makes true. Demand 2.
use Rattle.plan.specs.Entry.{Claim}
use Rattle.std.specs.Prelude.{List, [], ◌∷◌, ◌++◌, ℕ, ◌+◌, ◌/◌, ◌%◌, Some, None}
use Rattle.plan.specs.declared.Arrived.{Arrived}
use Rattle.calls.specs.Run.{arrival, send, Made, made}
use Rattle.claims.specs.Recording.{true_claim}

-- class 1, length 2, tag 4, big-endian (R301)
abbrev pub body_bytes : Arrived → List ℕ
body_bytes a =
    a.class
    ∷ a.length / 256 ∷ a.length % 256
    ∷ a.tag / 16_777_216 ∷ a.tag / 65_536 % 256 ∷ a.tag / 256 % 256 ∷ a.tag % 256 ∷ []

-- a claim: kind 18 and a packet, or kind 19 (R301)
abbrev pub claim_bytes : Claim → List ℕ
claim_bytes (Some a) = 18 ∷ body_bytes a
claim_bytes None = 19 ∷ []

-- a call that was made: kind 16 and its packet, taken or refused; or kind 17 and the claim that its answer makes true (R301)
abbrev pub call_bytes : Made → List ℕ
call_bytes (made (arrival class p) answer after) = 16 ∷ body_bytes (record { class = class; length = p.length; tag = p.tag })
call_bytes (made send answer after) = 17 ∷ claim_bytes (true_claim answer)

-- calls, one after the other (R301)
unfoldable pub recorded : List Made → List ℕ
recorded [] = []
recorded (m ∷ ms) = call_bytes m ++ recorded ms

-- the sends among them
abbrev pub sends_by : Made → ℕ
sends_by (made (arrival class p) answer after) = 0
sends_by (made send answer after) = 1

unfoldable pub sends_in : List Made → ℕ
sends_in [] = 0
sends_in (m ∷ ms) = sends_by m + sends_in ms

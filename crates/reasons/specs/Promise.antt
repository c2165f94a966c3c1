-- What a reason promises of the calls that follow (R214 to R217): each said of one call, and of all calls of a run. Demand 2.
use Rattle.std.specs.Prelude.{false, List, [], ◌∷◌, ◌⊎◌, ◌≡◌, ℕ, ◌≤◌, ◌<◌, Ok}
use Rattle.state.specs.declared.Link.{Link}
use Rattle.state.specs.State.{State, meaning}
use Rattle.rules.specs.Sending.{ready}
use Rattle.calls.specs.Run.{arrival, send, Made, made, link_left}
use Rattle.reasons.specs.Reason.{StillDue}

-- the call sends no packet of class i (R214 to R217)
abbrev pub SendsNone : ℕ → Made → Type 0
SendsNone i (made (arrival class p) answer after) = Unit {0}
SendsNone i (made send answer after) = answer.verdict ≡ Ok tt → answer.class ≡ i → ⊥

-- the call is no accepted arrival to class i (R214)
abbrev pub TakesNone : ℕ → Made → Type 0
TakesNone i (made (arrival class p) answer after) = answer.verdict ≡ Ok tt → class ≡ i → ⊥
TakesNone i (made send answer after) = Unit {0}

-- the call opens no round (R215 to R217)
abbrev pub OpensNone : Made → Type 0
OpensNone (made (arrival class p) answer after) = Unit {0}
OpensNone (made send answer after) = answer.rounds ≡ 0

-- so it is with each of the calls (R214 to R217)
unfoldable pub Each : (Made → Type 0) → List Made → Type 0
Each P [] = Unit {0}
Each P (m ∷ ms) = P m × Each P ms

-- the search of a send comes to leaf i: it is in the round and not below the place, and no leaf before it, from the place on, can send
-- (R135 to R137, R217)
pub record CameTo (s : State) (i : ℕ) : Type 0 where
  pub due : StillDue s i
  pub first : (k : ℕ) → s.round.place ≤ k → k < i → ready s k ≡ false

-- the search of the call comes to leaf i, in the round in which the call begins (R217)
abbrev pub Reaches : ℕ → Link → Made → Type 0
Reaches i l (made (arrival class p) answer after) = ⊥
Reaches i l (made send answer after) = CameTo (meaning l) i

-- no round opens in a call before the one whose search comes to leaf i (R217)
unfoldable pub ReachedInTime : ℕ → Link → List Made → Type 0
ReachedInTime i l [] = Unit {0}
ReachedInTime i l (m ∷ ms) = Reaches i l m ⊎ (OpensNone m × ReachedInTime i (link_left m) ms)

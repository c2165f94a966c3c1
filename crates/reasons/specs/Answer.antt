-- What any link record and any class number give (R212, R213): the reason that is true, or a refusal. Demand 1.
use Rattle.checks.specs.declared.Refused.{Refused}
use Rattle.checks.specs.declared.Refusal.TheVariants.{NotSound, NoLeaf}
use Rattle.std.specs.Prelude.{Bool, not, List, [], ◌∷◌, ◌≡◌, ℕ, Result, Ok, Err}
use Rattle.checks.specs.Check.{Check, check, first_broken, Exactly, Verdict}
use Rattle.state.specs.declared.Link.{Link}
use Rattle.state.specs.State.{State, meaning}
use Rattle.sound.specs.Sound.{SoundLink}
use Rattle.calls.specs.Arrival.{no_leaf}
use Rattle.reasons.specs.declared.Reason.{Reason}
use Rattle.reasons.specs.Reason.{IsTrue}

-- the answer: a reason, or what is refused (R212)
abbrev pub Silence : Type 0
Silence = Result Reason Refused

-- in the order 11, 12, as for an arrival; 11 at 0, 12 at the class (R212)
abbrev pub silent_checks : Bool → State → ℕ → List Check
silent_checks sound s class = check NotSound (not sound) 0 ∷ check NoLeaf (no_leaf s class) class ∷ []

-- the number and the place of each case of an answer (R212)
abbrev pub told_verdict : Silence → Verdict
told_verdict (Ok reason) = Ok tt
told_verdict (Err e) = Err e

-- what is answered of any record and any class number: a refusal, or the reason that is true (R213; no other is: `one_answer`,
-- proofs/OneReason)
pub record SaysWhy (l : Link) (class : ℕ) (r : Silence) : Type 0 where
  pub sound : Bool
  pub exactly : Exactly sound (SoundLink l)
  pub verdict : told_verdict r ≡ first_broken (silent_checks sound (meaning l) class)
  pub reason : (q : Reason) → r ≡ Ok q → IsTrue (meaning l) class q

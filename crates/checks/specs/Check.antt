-- Checks in a fixed order (R4 to R7): the first that is broken gives its number and its place. Demand 1.
use Rattle.std.specs.Prelude.{Bool, true, false, List, [], ◌∷◌, ◌++◌, ◌≡◌, ◌≤◌, ⊤, ℕ, zero, suc, ltb, Result, Ok, Err}
use Rattle.checks.specs.declared.Refusal.{Refusal}
use Rattle.checks.specs.declared.Refusal.TheVariants.{Cut, UnknownKind, TooMany, BadParent, BadWeight, BadLongest, TooHeavy, Childless, NoClass}
use Rattle.checks.specs.declared.Refusal.TheVariants.{TooLong, NotSound, NoLeaf, BadLength, Full, NothingWaits, NoRoom, BadRule, LateRule}
use Rattle.checks.specs.declared.Refusal.TheVariants.{Unpaired, BadCapacity, BadRequest, NeedsMore, Other}
use Rattle.checks.specs.declared.Refused.{Refused}

-- the number of each refusal (R4; docs/refusals.md)
abbrev pub number : Refusal → ℕ
number Cut = 1
number UnknownKind = 2
number TooMany = 3
number BadParent = 4
number BadWeight = 5
number BadLongest = 6
number TooHeavy = 7
number Childless = 8
number NoClass = 9
number TooLong = 10
number NotSound = 11
number NoLeaf = 12
number BadLength = 13
number Full = 14
number NothingWaits = 15
number NoRoom = 16
number BadRule = 17
number LateRule = 18
number Unpaired = 19
number BadCapacity = 20
number BadRequest = 21
number NeedsMore = 22
number (Other unlisted) = unlisted.number

-- what is refused, and the place of what breaks the rule (R4)
abbrev pub refusal_at : Refusal → ℕ → Refused
refusal_at refusal place = record { 0 = refusal; 1 = place }

-- what checks say: all passed, or what is refused (R4)
abbrev pub Verdict : Type 0
Verdict = Result Unit Refused

-- the number and the place of each case of a verdict; 0 and 0 where all passed (R4)
abbrev pub number_of : Verdict → ℕ
number_of (Ok _) = 0
number_of (Err e) = number e.0

abbrev pub place_of : Verdict → ℕ
place_of (Ok _) = 0
place_of (Err e) = e.1

-- whether all passed (R5)
abbrev pub passed : Verdict → Bool
passed (Ok _) = true
passed (Err _) = false

-- what is refused, if anything, is one of the 22 that docs/refusals.md tells of (R4)
abbrev pub Listed : Verdict → Type 0
Listed (Ok _) = ⊤
Listed (Err e) = (1 ≤ number e.0) × (number e.0 ≤ 22)

-- a check: whether it is broken here, what is refused then, and the place it names (R5)
pub record Check : Type 0 where
  pub broken : Bool
  pub refusal : Refusal
  pub place : ℕ

abbrev pub check : Refusal → Bool → ℕ → Check
check n b p = record { broken = b; refusal = n; place = p }

-- the verdict of checks made in order: that of the first broken one (R5)
unfoldable pub first_broken : List Check → Verdict
first_broken [] = Ok tt
first_broken (c ∷ cs) = elim c.broken [ true ↦ Err (refusal_at c.refusal c.place) | false ↦ first_broken cs ]

-- the checks of class 1, then those of class 2, and so on up to class n (R6)
unfoldable pub class_by_class : (ℕ → List Check) → ℕ → List Check
class_by_class f zero = []
class_by_class f (suc n) = class_by_class f n ++ f (suc n)

-- a decision says yes exactly when the claim holds
pub record Exactly (b : Bool) (P : Type 0) : Type 0 where
  pub sound : b ≡ true → P
  pub complete : P → b ≡ true

-- 10: the program's input exceeds 65,536 bytes; at 65,536 (R7)
abbrev pub input_checks : ℕ → List Check
input_checks n = check TooLong (ltb 65_536 n) 65_536 ∷ []

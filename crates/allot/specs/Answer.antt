-- What any tree, any capacity and any table of requests give (R68, R80 to R85): a refusal, or the rates of every class.
use Rattle.checks.specs.declared.Refusal.TheVariants.{NotSound, BadCapacity, BadRequest}
use Rattle.checks.specs.declared.Refusal.{Refusal}
use Rattle.std.specs.Prelude.{Bool, ◌&&◌, ◌||◌, not, List, [], ◌∷◌, ◌≡◌, ℕ, ◌≤◌, ◌<◌, ltb, length, replicate, Ok, Err}
use Rattle.checks.specs.Check.{Check, check, first_broken, class_by_class, Exactly, Verdict, refusal_at}
use Rattle.tree.specs.declared.Tree.{Tree}
use Rattle.tree.specs.Class.{is_leaf}
use Rattle.tree.specs.Rules.{PlanRules}
use Rattle.allot.specs.declared.Allotted.{Allotted}
use Rattle.allot.specs.Request.{entry, request_of}
use Rattle.allot.specs.Rates.{Allots}

-- 20: capacity outside its range, 1 to 1,000,000,000 (R81)
unfoldable pub bad_capacity : ℕ → Bool
bad_capacity capacity = ltb capacity 1 || ltb 1_000_000_000 capacity

-- 21: a leaf's request outside its range, 0 to 1,000,000,000 (R82)
unfoldable pub bad_request : Tree → List ℕ → ℕ → Bool
bad_request t table i = is_leaf t i && ltb 1_000_000_000 (entry table i)

abbrev pub request_checks : Tree → List ℕ → ℕ → List Check
request_checks t table i = check BadRequest (bad_request t table i) i ∷ []

-- in this order: 11 at 0 for a tree that breaks the plan rules, 20 at 0, then class by class upward 21 at the class (R80 to R83)
abbrev pub range_checks : Tree → ℕ → List ℕ → List Check
range_checks t capacity table = check BadCapacity (bad_capacity capacity) 0 ∷ class_by_class (request_checks t table) t.count

abbrev pub rate_checks : Bool → Tree → ℕ → List ℕ → List Check
rate_checks obeys t capacity table = check NotSound (not obeys) 0 ∷ range_checks t capacity table

-- a refusal allots 0 everywhere (R84, R163)
abbrev pub nothing_allotted : Verdict → Allotted
nothing_allotted v = record { verdict = v; requests = replicate 64 0; gets = replicate 64 0; unallotted = replicate 64 0 }

-- where nothing is refused: what each class requests, what it gets and what stays unallotted, in tables of 64 entries that are 0 at
-- a number that is no class (R35, R85)
pub record Tables (t : Tree) (capacity : ℕ) (table : List ℕ) (r : Allotted) : Type 0 where
  pub requests : (i : ℕ) → i ≤ t.count → entry r.requests i ≡ request_of t table i
  pub allots : Allots t capacity (request_of t table) (entry r.gets) (entry r.unallotted)
  pub past : (i : ℕ) → t.count < i → (entry r.requests i ≡ 0) × (entry r.gets i ≡ 0) × (entry r.unallotted i ≡ 0)
  pub entries : (length r.requests ≡ 64) × (length r.gets ≡ 64) × (length r.unallotted ≡ 64)

-- the answer (R68, R84, R197)
pub record Rates (t : Tree) (capacity : ℕ) (table : List ℕ) (r : Allotted) : Type 0 where
  pub obeys : Bool
  pub exactly : Exactly obeys (PlanRules t)
  pub verdict : r.verdict ≡ first_broken (rate_checks obeys t capacity table)
  pub allotted : r.verdict ≡ Ok tt → Tables t capacity table r
  pub refused : (n : Refusal) (place : ℕ) → r.verdict ≡ Err (refusal_at n place) → r ≡ nothing_allotted (Err (refusal_at n place))

-- What the writer says of any tree and any buffer (R260 to R263). Demand 1.
use Rattle.checks.specs.declared.Refusal.TheVariants.{NotSound, NoRoom}
use Rattle.std.specs.Prelude.{Bool, not, List, [], ◌∷◌, ◌++◌, ◌≡◌, ℕ, ltb, length, drop, Ok, Err}
use Rattle.checks.specs.Check.{Check, check, first_broken, Exactly, Verdict}
use Rattle.tree.specs.declared.Tree.{Tree}
use Rattle.tree.specs.Rules.{PlanRules}
use Rattle.written.specs.declared.Written.{Written}
use Rattle.written.specs.Bytes.{plan_bytes}

-- the buffer is shorter than the plan (R261)
unfoldable pub no_room : Tree → List ℕ → Bool
no_room t buffer = ltb (length buffer) (length (plan_bytes t))

-- in this order: 11 at 0 for a tree that breaks the plan rules (R260); 16 without room, at the length needed (R261)
abbrev pub write_checks : Bool → Tree → List ℕ → List Check
write_checks obeys t buffer = check NotSound (not obeys) 0 ∷ check NoRoom (no_room t buffer) (length (plan_bytes t)) ∷ []

-- a verdict and the bytes written, none where it refuses (R262)
abbrev pub nothing_written : Verdict → Written
nothing_written v = record { verdict = v; used = 0 }

abbrev pub written_by : Verdict → Tree → Written
written_by (Ok _) t = record { verdict = Ok tt; used = length (plan_bytes t) }
written_by (Err e) t = nothing_written (Err e)

-- the buffer then: the plan's bytes and after them what stood there; a refusal touches none (R263)
abbrev pub buffer_by : Verdict → Tree → List ℕ → List ℕ
buffer_by (Ok _) t buffer = plan_bytes t ++ drop (length (plan_bytes t)) buffer
buffer_by (Err _) t buffer = buffer

-- the lists of a tree have the lengths of its arrays
pub record Arrays (t : Tree) : Type 0 where
  pub parents : length t.parent ≡ 64
  pub weights : length t.weight ≡ 64
  pub longests : length t.longest ≡ 64

-- the answer, and the buffer at exit; that the tree's lists are those of arrays is no promise of the caller's (R262, R263)
pub record Writes (t : Tree) (before : List ℕ) (r : Written) (after : List ℕ) : Type 0 where
  pub shape : Arrays t
  pub obeys : Bool
  pub exactly : Exactly obeys (PlanRules t)
  pub answer : r ≡ written_by (first_broken (write_checks obeys t before)) t
  pub buffer : after ≡ buffer_by (first_broken (write_checks obeys t before)) t before

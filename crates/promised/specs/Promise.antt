-- What a plan promises of a packet's wait: the bound of demand 3, for any tree, any class number and any D (R237 to R241).
use Rattle.checks.specs.declared.Refusal.TheVariants.{NotSound, NoLeaf, Full}
use Rattle.std.specs.Prelude.{Bool, not, List, [], ◌∷◌, ◌≡◌, ℕ, ◌*◌, ltb, Ok, Err}
use Rattle.checks.specs.Check.{Check, check, first_broken, Exactly, Verdict}
use Rattle.units.specs.Cost.{cost_of}
use Rattle.tree.specs.declared.Tree.{Tree}
use Rattle.tree.specs.Class.{weight_of, longest_of, is_leaf}
use Rattle.tree.specs.Rules.{PlanRules}
use Rattle.tree.specs.Size.{round_size}
use Rattle.wait.specs.Wait.{bound}
use Rattle.promised.specs.declared.Promised.{Promised}
use Rattle.promised.specs.declared.LeafWaits.{LeafWaits}

-- D of a leaf's longest packet alone in its queue, and of 32 such packets: more bytes its 32 places cannot hold (R239, R240)
abbrev pub alone_held : Tree → ℕ → ℕ
alone_held t class = cost_of (longest_of t class)

abbrev pub most_held : Tree → ℕ → ℕ
most_held t class = 32 * cost_of (longest_of t class)

-- in this order: 11 at 0 for a tree that breaks the plan rules, 12 at the class where it is no leaf of the plan, 14 at the class where D is
-- more than its 32 places can hold (R238, R239)
abbrev pub wait_checks : Bool → Tree → ℕ → ℕ → List Check
wait_checks obeys t class d =
    check NotSound (not obeys) 0 ∷ check NoLeaf (not (is_leaf t class)) class ∷ check Full (ltb (most_held t class) d) class ∷ []

-- an answer with so many bytes
abbrev pub promising : Verdict → ℕ → Promised
promising verdict n = record { verdict = verdict; bytes = record { 0 = n } }

-- what is promised: the bound with the class's own weight and the tree's Q; a refusal promises 0 (R237, R238)
abbrev pub promised_by : Verdict → Tree → ℕ → ℕ → Promised
promised_by (Ok _) t class d = promising (Ok tt) (bound d (weight_of t class) (round_size t))
promised_by (Err e) t class d = promising (Err e) 0

-- the answer (R237, R238)
pub record Promises (t : Tree) (class d : ℕ) (r : Promised) : Type 0 where
  pub obeys : Bool
  pub exactly : Exactly obeys (PlanRules t)
  pub answer : r ≡ promised_by (first_broken (wait_checks obeys t class d)) t class d

-- the two that a planner asks of a leaf (R240)
pub record PromisesLeaf (t : Tree) (class : ℕ) (r : LeafWaits) : Type 0 where
  pub alone : Promises t class (alone_held t class) r.alone
  pub full : Promises t class (most_held t class) r.full

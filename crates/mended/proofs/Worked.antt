-- Worked cases, computed: what some plans give by the definitions.
use mathlib.Core.List.{List, [], ◌∷◌, ◌++◌, map}
use mathlib.Core.Path.{◌≡◌, refl}
use Prim.Native.Nat.{ℕ}
use Rattle.std.specs.Prelude.{Ok, Err}
use Rattle.checks.specs.declared.Refusal.{Refusal}
use Rattle.checks.specs.declared.Refusal.TheVariants.{BadRule, BadWeight, Childless, Cut, LateRule, NeedsMore, NoClass}
use Rattle.checks.specs.Check.{first_broken, class_by_class, Verdict, refusal_at}
use Rattle.sets.specs.Set.{has, with}
use Rattle.tree.specs.Class.{is_class, is_leaf, is_inner, is_child, has_child, of_child, children_sum}
use Rattle.tree.specs.Rules.{too_many, bad_parent, bad_weight, bad_longest, childless, no_class}
use Rattle.tree.specs.Sum.{sum_to, some_to, table}
use Rattle.plan.specs.Kind.{record_kind}
use Rattle.plan.specs.Record.{kind_at, missing, unknown, cut, body_of, rule_of, late_rule, bad_rule, class_at}
use Rattle.plan.specs.Reader.{record_checks, rule_first, after, follows_of, tree_of, passes, in_row, passed_over, records_of}
use Rattle.written.specs.Bytes.{inner_bytes, leaf_bytes}
use Rattle.mended.specs.declared.Change.{Change}
use Rattle.mended.specs.declared.Changes.{Changes}
use Rattle.mended.specs.Weights.{mended_in, mended_weight, needs_more}
use Rattle.mended.specs.Answer.{change, change_of, changes_to, downward, listed, mend_of}

-- the records of a plan: an inner class, and a leaf of a parent and a weight, whose longest packet is 10; a rule, and the end
abbrev inner : ℕ → ℕ → List ℕ
inner p w = inner_bytes p w

abbrev leaf : ℕ → ℕ → List ℕ
leaf p w = leaf_bytes p w 10

abbrev rule : ℕ → List ℕ
rule n = 3 ∷ n ∷ []

abbrev end : List ℕ
end = 0 ∷ []

-- what a plan gives: the verdict, the bytes used and the changes
record Given : Type 0 where
  verdict : Verdict
  used : ℕ
  changes : Changes

abbrev given : List ℕ → Given
given s = record { verdict = (mend_of s).verdict; used = (mend_of s).used; changes = (mend_of s).changes }

-- a plan and what it should give
record Case : Type 0 where
  plan : List ℕ
  gives : Given

abbrev mends : List ℕ → ℕ → List Change → Case
mends s used xs = record { plan = s; gives = record { verdict = Ok tt; used = used; changes = listed xs } }

abbrev stops : List ℕ → Refusal → ℕ → Case
stops s n p = record { plan = s; gives = record { verdict = Err (refusal_at n p); used = 0; changes = listed [] } }

cases : List Case
cases =
    -- tree P, and with class 1 at weight 2
    mends (inner 0 3 ++ leaf 1 1 ++ leaf 1 2 ++ leaf 0 4 ++ end) 31 []
    ∷ mends (inner 0 2 ++ leaf 1 1 ++ leaf 1 2 ++ leaf 0 4 ++ end) 31 (change 1 2 3 ∷ [])
    -- a chain that grows up to the root's child
    ∷ mends (inner 0 1 ++ inner 1 1 ++ inner 2 1 ++ leaf 3 7 ++ end) 27 (change 1 1 7 ∷ change 2 1 7 ∷ change 3 1 7 ∷ [])
    -- two branches, one of them with room
    ∷ mends (inner 0 5 ++ inner 0 1 ++ leaf 1 2 ++ leaf 1 2 ++ leaf 2 9 ++ end) 37 (change 2 1 9 ∷ [])
    -- 1,000,000 is not too much
    ∷ mends (inner 0 1 ++ leaf 1 999_999 ++ leaf 1 1 ++ end) 23 (change 1 1 1_000_000 ∷ [])
    -- 22 at the highest of two, and above a class that fits
    ∷ stops (inner 0 1_000_000 ++ inner 1 1_000_000 ++ leaf 2 1_000_000 ++ leaf 2 1 ++ end) NeedsMore 2
    ∷ stops (inner 0 1_000_000 ++ inner 1 1 ++ leaf 2 1_000_000 ++ leaf 1 1 ++ end) NeedsMore 1
    -- 8 where the reader says 7 at a lower class, and before 22
    ∷ stops (inner 0 1 ++ inner 0 1 ++ leaf 1 5 ++ end) Childless 2
    ∷ stops (inner 0 1 ++ inner 0 1 ++ leaf 1 1_000_000 ++ leaf 1 1 ++ end) Childless 2
    -- 9, 1, 5 at the second record
    ∷ stops end NoClass 0
    ∷ stops [] Cut 0
    ∷ stops (inner 0 1 ++ leaf 1 0 ++ end) BadWeight 6
    -- a rule record is read over; 17, and 18 at the second record
    ∷ mends (rule 2 ++ inner 0 1 ++ leaf 1 5 ++ end) 17 (change 1 1 5 ∷ [])
    ∷ stops (rule 3 ++ inner 0 1 ++ leaf 1 5 ++ end) BadRule 0
    ∷ stops (inner 0 1 ++ rule 2 ++ leaf 1 5 ++ end) LateRule 6
    ∷ []

computed : map (λ (c : Case). given c.plan) cases ≡ map (λ (c : Case). c.gives) cases
unfolding cases first_broken class_by_class has with is_class is_leaf is_inner is_child has_child sum_to some_to
    too_many bad_parent bad_weight bad_longest childless no_class
    record_kind kind_at missing unknown cut body_of rule_of late_rule bad_rule class_at record_checks rule_first after follows_of tree_of passes in_row
    passed_over records_of
    table of_child children_sum mended_in mended_weight needs_more change_of changes_to downward
computed = refl

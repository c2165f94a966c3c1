-- What any bytes give: the mended tree with the list of changes, or a refusal (R270, R271, R273, R274). Demand 1.
use Rattle.checks.specs.declared.Refusal.TheVariants.{Childless, NoClass, NeedsMore}
use Rattle.std.specs.Prelude.{cond, List, [], ◌∷◌, ◌++◌, ℕ, zero, suc, ◌-◌, ltb, length, replicate, Ok, Err}
use Rattle.checks.specs.Check.{Check, check, first_broken, class_by_class, Verdict}
use Rattle.tree.specs.declared.Tree.{Tree}
use Rattle.tree.specs.Class.{no_tree, weight_of}
use Rattle.tree.specs.Rules.{childless, no_class}
use Rattle.plan.specs.declared.PlanRead.{PlanRead}
use Rattle.plan.specs.Reader.{records_of}
use Rattle.mended.specs.declared.Change.{Change}
use Rattle.mended.specs.declared.Changes.{Changes}
use Rattle.mended.specs.declared.Mended.{Mended}
use Rattle.mended.specs.Weights.{mended_weight, needs_more, mended_tree}

-- a changed class with its old and its new weight; nothing of a class that is not changed (R273)
abbrev pub change : ℕ → ℕ → ℕ → Change
change i old new = record { class = i; old = record { 0 = old }; new = record { 0 = new } }

unfoldable pub change_of : Tree → ℕ → List Change
change_of t i = cond (ltb (weight_of t i) (mended_weight t i)) (change i (weight_of t i) (mended_weight t i) ∷ []) []

-- the changes of the classes 1 to n, in class order (R273)
unfoldable pub changes_to : Tree → ℕ → List Change
changes_to t zero = []
changes_to t (suc n) = changes_to t n ++ change_of t (suc n)

-- a list as a table of 64 with a count: its entries first, and 0 in the others (R273)
abbrev pub no_change : Change
no_change = change 0 0 0

abbrev pub listed : List Change → Changes
listed xs = record { count = length xs; at = xs ++ replicate (64 - length xs) no_change }

-- the checks of class n, then those of class n - 1, and so on down to class 1 (R271)
unfoldable pub downward : (ℕ → List Check) → ℕ → List Check
downward f zero = []
downward f (suc n) = f (suc n) ++ downward f n

-- 8, of a class (R270)
abbrev pub child_checks : Tree → ℕ → List Check
child_checks t i = check Childless (childless t i) i ∷ []

-- 22, of a class (R271)
abbrev pub need_checks : Tree → ℕ → List Check
need_checks t i = check NeedsMore (needs_more t i) i ∷ []

-- after the records 9, then 8 of any class, lowest first, before any mending (R270); then 22, worked upward from the highest class (R271)
abbrev pub mend_checks : Tree → List Check
mend_checks t = check NoClass (no_class t) 0 ∷ class_by_class (child_checks t) t.count ++ downward (need_checks t) t.count

-- verdict, bytes used, the mended tree and the list; a refusal gives 0 bytes used, the tree without classes and an empty list (R274)
abbrev pub answer : Verdict → Tree → ℕ → Mended
answer (Ok _) t used = record { verdict = Ok tt; used = used; tree = mended_tree t; changes = listed (changes_to t t.count) }
answer (Err e) t used = record { verdict = Err e; used = 0; tree = no_tree; changes = listed [] }

-- a record's refusal is the reader's; records that broke no rule go on to the checks above (R270, R274)
abbrev pub mended_by : Verdict → PlanRead → Mended
mended_by (Ok _) r = answer (first_broken (mend_checks r.tree)) r.tree r.used
mended_by (Err e) r = answer (Err e) no_tree 0

-- any bytes (R274)
abbrev pub mend_of : List ℕ → Mended
mend_of input = let r = records_of input in mended_by r.verdict r

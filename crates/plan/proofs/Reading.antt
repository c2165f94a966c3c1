-- Laws of the reader's definition: one record, the records passed over, and the record that decides. Demand 1.
use mathlib.Core.Bool.{Bool, true, false, cond, ◌&&◌}
use mathlib.Core.List.{List, [], ◌++◌}
use mathlib.Core.Path.{◌≡◌, refl, sym, ap, ◌∙◌}
use Prim.Native.Nat.{ℕ, zero, suc, ◌+◌, ◌-◌, ◌≤◌, ◌<◌}
use native.Mathlib.Decide.{dec_lt, ℕ_discrete}
use native.Mathlib.Numerals.{add-one}
use native.Mathlib.Omega.{arith}
use lib.Dec.{eqb}
use lib.ListN.{length, take, drop, length-drop}
use lib.Seq.{take_all}
use borrow.Author.Count.{below_more}
use borrow.Author.Tests.{eq-eqb, ne_eqb, eqb-true, ltb-false}
use Rattle.checks.specs.declared.Refusal.TheVariants.{Cut, UnknownKind, TooMany, BadRule, LateRule}
use Rattle.checks.specs.declared.Refusal.{Refusal}
use Rattle.std.specs.Prelude.{Some, None, Ok, Err}
use Rattle.checks.specs.Check.{check, first_broken, passed, Verdict, refusal_at}
use Rattle.checks.proofs.Laws.{not_true_and_false, decides, pass_over, passed_parts, after_passed, refused_before, none_broken}
use Rattle.tree.specs.declared.Tree.{Tree}
use Rattle.tree.specs.Class.{no_tree, ruled, added}
use Rattle.tree.specs.Rules.{too_many, class_checks, closing_checks, ClassesPass, Light}
use Rattle.tree.proofs.Classes.{both_true, class_passed}
use Rattle.tree.proofs.Rules.{weight_range}
use Rattle.tree.proofs.Growth.{Grown, Proper, none_grown, added_grown, classes_kept, none_pass}
use Rattle.plan.specs.declared.kind.Section.TheVariants.{Plan}
use Rattle.plan.specs.Kind.{gives_class, gives_leaf, gives_rule}
use Rattle.plan.specs.Record.{kind_at, missing, unknown, cut, body_of, rule_of, late_rule, bad_rule, inner_class, leaf_class, class_at}
use Rattle.plan.specs.Reader.{
  head_checks,
  rule_checks,
  new_class_checks,
  whole_checks,
  record_checks,
  rule_first,
  follows_of,
  after,
  tree_of,
  checks_of,
}
use Rattle.plan.specs.Reader.{passes, in_row, passed_over, deciding_checks}
use Rattle.plan.specs.Reader.{outcome, plan_of, records_of, closed}
use Rattle.plan.specs.Steps.{Following, ClassSays, PlainSays, RuleStops, WholeSays, StepSays}
use Rattle.plan.proofs.Records.{class_no_rule, and_no, no_rule_late, no_rule_bad, late_yes, late_first, whole_length}

-- ---- one record

-- the rest of the input, as a part of it
pub rest_part : (s : List ℕ) (place : ℕ) → take (length s - place) (drop place s) ≡ drop place s
rest_part s place = take_all (length s - place) (drop place s) (omega (arith, length-drop place s))

-- the checks of a whole record, by what it gives
module _ (rest : List ℕ) (place : ℕ) (t : Tree) where
  pub whole_late : late_rule rest place ≡ true → first_broken (whole_checks rest place t) ≡ Err (refusal_at LateRule place)
  whole_late e = decides (check LateRule (late_rule rest place) place) _ e

  pub whole_bad : late_rule rest place ≡ false → bad_rule rest ≡ true → first_broken (whole_checks rest place t) ≡ Err (refusal_at BadRule place)
  whole_bad e f = pass_over (check LateRule (late_rule rest place) place) _ e ∙ decides (check BadRule (bad_rule rest) place) _ f

  -- neither 18 nor 17: what is left are the checks of its class
  whole_left : gives_rule (kind_at rest) ≡ false
      → first_broken (whole_checks rest place t)
      ≡ first_broken (cond (gives_class (kind_at rest)) (new_class_checks (added t (class_at rest)) place) [])
  whole_left e =
      pass_over (check LateRule (late_rule rest place) place) _ (no_rule_late rest place e)
      ∙ pass_over (check BadRule (bad_rule rest) place) _ (no_rule_bad rest e)

  pub whole_class : gives_class (kind_at rest) ≡ true
      → first_broken (whole_checks rest place t) ≡ first_broken (new_class_checks (added t (class_at rest)) place)
  whole_class e =
      whole_left (class_no_rule (kind_at rest) e)
      ∙ ap (λ (b : Bool). first_broken (cond b (new_class_checks (added t (class_at rest)) place) [])) e

  whole_end : gives_class (kind_at rest) ≡ false → gives_rule (kind_at rest) ≡ false → first_broken (whole_checks rest place t) ≡ Ok tt
  whole_end e f =
      whole_left f ∙ ap (λ (b : Bool). first_broken (cond b (new_class_checks (added t (class_at rest)) place) [])) e ∙ none_broken

-- the checks of a record, by the numbers of its head
module _ (s : List ℕ) (place : ℕ) (t : Tree) where
  pub record_missing : missing (drop place s) ≡ true → first_broken (record_checks s place t) ≡ Err (refusal_at Cut (length s))
  unfolding record_checks
  record_missing e = decides (check Cut (missing (drop place s)) (length s)) _ e

  pub record_unknown : missing (drop place s) ≡ false → unknown Plan (drop place s) ≡ true
      → first_broken (record_checks s place t) ≡ Err (refusal_at UnknownKind place)
  unfolding record_checks
  record_unknown e f =
      pass_over (check Cut (missing (drop place s)) (length s)) _ e ∙ decides (check UnknownKind (unknown Plan (drop place s)) place) _ f

  pub record_cut : missing (drop place s) ≡ false → unknown Plan (drop place s) ≡ false → cut (drop place s) ≡ true
      → first_broken (record_checks s place t) ≡ Err (refusal_at Cut place)
  unfolding record_checks
  record_cut e f g =
      pass_over (check Cut (missing (drop place s)) (length s)) _ e
      ∙ pass_over (check UnknownKind (unknown Plan (drop place s)) place) _ f
      ∙ decides (check Cut (cut (drop place s)) place) _ g

  -- a whole record: what is left are the checks of what it gives
  pub record_whole : missing (drop place s) ≡ false → unknown Plan (drop place s) ≡ false → cut (drop place s) ≡ false
      → first_broken (record_checks s place t) ≡ first_broken (whole_checks (drop place s) place t)
  unfolding record_checks
  record_whole e f g =
      pass_over (check Cut (missing (drop place s)) (length s)) _ e
      ∙ pass_over (check UnknownKind (unknown Plan (drop place s)) place) _ f
      ∙ pass_over (check Cut (cut (drop place s)) place) _ g

  pub record_class_lem : missing (drop place s) ≡ false → unknown Plan (drop place s) ≡ false → cut (drop place s) ≡ false
      → gives_class (kind_at (drop place s)) ≡ true
      → first_broken (record_checks s place t) ≡ first_broken (new_class_checks (added t (class_at (drop place s))) place)
  record_class_lem e f g h = record_whole e f g ∙ whole_class (drop place s) place t h

  pub record_end : missing (drop place s) ≡ false → unknown Plan (drop place s) ≡ false → cut (drop place s) ≡ false
      → gives_class (kind_at (drop place s)) ≡ false → gives_rule (kind_at (drop place s)) ≡ false
      → first_broken (record_checks s place t) ≡ Ok tt
  record_end e f g h i = record_whole e f g ∙ whole_end (drop place s) place t h i

-- what a class that was put to the tree says of its record
pub class_to_whole : (rest : List ℕ) (place to : ℕ) (t t' : Tree) (next : Following) → gives_class (kind_at rest) ≡ true
    → to ≡ place + 1 + (kind_at rest).body → to ≤ place + length rest → ClassSays t (class_at rest) place to t' next
    → WholeSays rest place t t' next
class_to_whole rest place to t t' (Err r) g e u h = whole_class rest place t g ∙ h
class_to_whole rest place to t t' (Ok None) g e u h = absurd h
class_to_whole rest place to t t' (Ok (Some next)) g e u h = (g, h.0, h.1 ∙ e, omega (arith, h.1), h.2)

-- what a record that gives no class says
pub plain_to_whole : (rest : List ℕ) (place : ℕ) (t t' : Tree) (next : Following) → gives_class (kind_at rest) ≡ false
    → RuleStops rest place → PlainSays (kind_at rest) place next → WholeSays rest place t t' next
plain_to_whole rest place t t' (Err e) g stops h = go (ℕ_discrete place 0)
  where
    stop : (m : Refusal) → cond (eqb place 0) BadRule LateRule ≡ m → first_broken (whole_checks rest place t) ≡ Err (refusal_at m place)
        → first_broken (whole_checks rest place t) ≡ Err e
    stop m same f = rw (h.1, h.2, same) f

    go : Dec (place ≡ 0) → first_broken (whole_checks rest place t) ≡ Err e
    go (yes z) =
        let l = late_first rest place z in
        stop BadRule (rw (eq-eqb place 0 z)) (whole_bad rest place t l (stops h.0 l))
    go (no z) = stop LateRule (rw (ne_eqb place 0 z)) (whole_late rest place t (late_yes rest place h.0 z))
plain_to_whole rest place t t' (Ok None) g stops h = (g, h)
plain_to_whole rest place t t' (Ok (Some next)) g stops h = absurd h

-- and what a whole record says of the input
pub whole_to_step : (s : List ℕ) (place : ℕ) (t t' : Tree) (next : Following) → place ≤ length s
    → missing (drop place s) ≡ false → unknown Plan (drop place s) ≡ false → cut (drop place s) ≡ false → 1 ≤ length (drop place s)
    → WholeSays (drop place s) place t t' next → StepSays s place t t' next
whole_to_step s place t t' (Err r) u e f g l h = record_whole s place t e f g ∙ h
whole_to_step s place t t' (Ok None) u e f g l h = (record_end s place t e f g h.0 h.1, h.0, omega (arith, length-drop place s))
whole_to_step s place t t' (Ok (Some next)) u e f g l h =
    (record_class_lem s place t e f g h.0 ∙ h.1, h.0, h.2, omega (arith, h.3, length-drop place s), h.4)

-- ---- the rule record

is_passed : (v : Verdict) → passed v ≡ true → v ≡ Ok tt
is_passed (Ok _) e = refl
is_passed (Err _) e = absurd (not_true_and_false e refl)

-- a first record that gives a rule and breaks none
pub record RuleRecord (s : List ℕ) : Type 0 where
  pub gives : gives_rule (kind_at s) ≡ true
  pub there : missing s ≡ false
  pub known : unknown Plan s ≡ false
  pub whole : cut s ≡ false
  pub right : bad_rule s ≡ false

pub first_parts : (s : List ℕ) → rule_first s ≡ true → RuleRecord s
unfolding rule_first
first_parts s e =
    let h = both_true (gives_rule (kind_at s)) (passed (first_broken (head_checks s 0 ++ rule_checks s 0))) e in
    let a = passed_parts (check Cut (missing s) (length s)) _ (is_passed (first_broken (head_checks s 0 ++ rule_checks s 0)) h.1) in
    let b = passed_parts (check UnknownKind (unknown Plan s) 0) _ a.1 in
    let d = passed_parts (check Cut (cut s) 0) _ b.1 in
    let f = passed_parts (check LateRule (late_rule s 0) 0) _ d.1 in
    record { gives = h.0; there = a.0; known = b.0; whole = d.0; right = (passed_parts (check BadRule (bad_rule s) 0) _ f.1).0 }

pub first_yes : (s : List ℕ) → RuleRecord s → rule_first s ≡ true
unfolding rule_first
first_yes s r =
    let passes : first_broken (head_checks s 0 ++ rule_checks s 0) ≡ (Ok tt) =
    pass_over (check Cut (missing s) (length s)) _ r.there
    ∙ pass_over (check UnknownKind (unknown Plan s) 0) _ r.known
    ∙ pass_over (check Cut (cut s) 0) _ r.whole
    ∙ pass_over (check LateRule (late_rule s 0) 0) _ (late_first s 0 refl)
    ∙ pass_over (check BadRule (bad_rule s) 0) _ r.right
    ∙ none_broken
    in
    rw (r.gives, passes)

pub first_no : (s : List ℕ) → (RuleRecord s → ⊥) → rule_first s ≡ false
first_no s h = go (rule_first s) refl
  where
    go : (b : Bool) → rule_first s ≡ b → b ≡ false
    go true e = absurd (h (first_parts s e))
    go false e = refl

-- so a rule record that breaks none does not stand after it, nor at the start where there is none
pub rule_stops : (s : List ℕ) (place : ℕ) → (place ≡ 0 → rule_first s ≡ false)
    → missing (drop place s) ≡ false → unknown Plan (drop place s) ≡ false → cut (drop place s) ≡ false
    → RuleStops (drop place s) place
rule_stops s zero first e f g = λ r l. go (bad_rule s) refl r
  where
    go : (b : Bool) → bad_rule s ≡ b → gives_rule (kind_at s) ≡ true → b ≡ true
    go true h r = refl
    go false h r =
        absurd (not_true_and_false (first_yes s (record { gives = r; there = e; known = f; whole = g; right = h })) (first refl))
rule_stops s (suc p) first e f g = λ r l. absurd (not_true_and_false (late_yes (drop (suc p) s) (suc p) r (λ z. omega arith)) l)

pub start_no_rule : (s : List ℕ) (k : ℕ) → after s k ≡ 0 → rule_first s ≡ false
unfolding after
start_no_rule s zero e = go (rule_first s) refl
  where
    go : (b : Bool) → rule_first s ≡ b → b ≡ false
    go true h = let one : 1 + (kind_at s).body ≡ 0 = rw h at e in absurd (omega (arith, one))
    go false h = refl
start_no_rule s (suc k) e = absurd (omega (arith, e))

pub start_within : (s : List ℕ) → after s 0 ≤ length s
unfolding after
start_within s = go (rule_first s) refl
  where
    go : (b : Bool) → rule_first s ≡ b → cond b (1 + (kind_at s).body) 0 ≤ length s
    go true h = whole_length s (first_parts s h).whole
    go false h = omega arith

-- how a plan begins, as the code answers it
pub opening_none : (s : List ℕ) → (RuleRecord s → ⊥) → (0 ≡ after s 0) × (false ≡ follows_of s)
unfolding after follows_of
opening_none s h = let e = first_no s h in (rw e, rw e)

pub opening_rule : (s : List ℕ) (end : ℕ) (b : Bool) → RuleRecord s → end ≡ 1 + (kind_at s).body → b ≡ eqb (rule_of s) 2
    → (end ≡ after s 0) × (b ≡ follows_of s)
unfolding after follows_of
opening_rule s end b r e f = let h = first_yes s r in (rw h e, rw h f)

-- so the record after the first k class records is no rule record that passes
pub no_rule_here : (s : List ℕ) (k : ℕ) → missing (drop (after s k) s) ≡ false → unknown Plan (drop (after s k) s) ≡ false
    → cut (drop (after s k) s) ≡ false → first_broken (checks_of s k) ≡ Ok tt → gives_rule (kind_at (drop (after s k) s)) ≡ false
no_rule_here s k e f g passed = go (gives_rule (kind_at rest)) refl
  where
    rest : List ℕ
    rest = drop (after s k) s

    go : (b : Bool) → gives_rule (kind_at rest) ≡ b → b ≡ false
    go true r =
        let w = sym (record_whole s (after s k) (tree_of s k) e f g) ∙ passed in
        let a = passed_parts (check LateRule (late_rule rest (after s k)) (after s k)) _ w in
        let b = passed_parts (check BadRule (bad_rule rest) (after s k)) _ a.1 in
        absurd (not_true_and_false (rule_stops s (after s k) (start_no_rule s k) e f g r a.0) b.0)
    go false r = refl

-- ---- the records passed over

pub after_next : (s : List ℕ) (k : ℕ) → after s (k + 1) ≡ after s k + 1 + (kind_at (drop (after s k) s)).body
unfolding after
after_next s k = rw (add-one k)

pub tree_next : (s : List ℕ) (k : ℕ) → tree_of s (k + 1) ≡ added (tree_of s k) (class_at (drop (after s k) s))
unfolding tree_of
tree_next s k = rw (add-one k)

pub tree_count : (s : List ℕ) (k : ℕ) → (tree_of s k).count ≡ k
unfolding tree_of
tree_count s zero = refl
tree_count s (suc k) = omega (arith, tree_count s k)

pub pass_yes : (s : List ℕ) (k : ℕ) → gives_class (kind_at (drop (after s k) s)) ≡ true → first_broken (checks_of s k) ≡ Ok tt
    → passes s k ≡ true
unfolding passes
pass_yes s k g e = rw (g, e)

pub pass_parts : (s : List ℕ) (k : ℕ) → passes s k ≡ true → (gives_class (kind_at (drop (after s k) s)) ≡ true)
    × (first_broken (checks_of s k) ≡ Ok tt)
unfolding passes
pass_parts s k e =
    let h = both_true (gives_class (kind_at (drop (after s k) s))) (passed (first_broken (checks_of s k))) e in
    (h.0, is_passed (first_broken (checks_of s k)) h.1)

pub pass_no_class : (s : List ℕ) (k : ℕ) → gives_class (kind_at (drop (after s k) s)) ≡ false → passes s k ≡ false
unfolding passes
pass_no_class s k g = rw g

pub pass_refused : (s : List ℕ) (k : ℕ) {n : Refusal} {p : ℕ} → first_broken (checks_of s k) ≡ Err (refusal_at n p) → passes s k ≡ false
unfolding passes
pass_refused s k e = rw e (and_no (gives_class (kind_at (drop (after s k) s))))

-- a record that passes breaks no number of its head, and its class none of the numbers 3 to 6
pub record Taken (s : List ℕ) (k : ℕ) (t : Tree) : Type 0 where
  pub there : missing (drop (after s k) s) ≡ false
  pub known : unknown Plan (drop (after s k) s) ≡ false
  pub whole : cut (drop (after s k) s) ≡ false
  pub few : too_many t ≡ false
  pub rows : first_broken (class_checks t t.count (after s k)) ≡ Ok tt

pub taken : (s : List ℕ) (k : ℕ) → passes s k ≡ true → Taken s k (added (tree_of s k) (class_at (drop (after s k) s)))
unfolding record_checks
taken s k e =
    let h = pass_parts s k e in
    let a = passed_parts (check Cut (missing (drop (after s k) s)) (length s)) _ h.1 in
    let b = passed_parts (check UnknownKind (unknown Plan (drop (after s k) s)) (after s k)) _ a.1 in
    let d = passed_parts (check Cut (cut (drop (after s k) s)) (after s k)) _ b.1 in
    let t = added (tree_of s k) (class_at (drop (after s k) s)) in
    let f : first_broken (new_class_checks t (after s k)) ≡ (Ok tt) =
    sym (record_class_lem s (after s k) (tree_of s k) a.0 b.0 d.0 h.0) ∙ h.1
    in
    let g = passed_parts (check TooMany (too_many t) (after s k)) _ f in
    record { there = a.0; known = b.0; whole = d.0; few = g.0; rows = g.1 }

-- so a 64th class record does not pass
pub room_left : (s : List ℕ) (k : ℕ) → passes s k ≡ true → k < 63
unfolding too_many
room_left s k e =
    omega (arith, tree_count s k, ltb-false 63 ((tree_of s k).count + 1) (taken s k e).few)

-- the tree of records that pass: no class breaks numbers 4, 5 and 6
pub tree_passes : (s : List ℕ) (k : ℕ) → ((j : ℕ) → j < k → passes s j ≡ true) → ClassesPass (tree_of s k)
unfolding tree_of
tree_passes s zero h = none_pass (follows_of s)
tree_passes s (suc k) h =
    let t = tree_of s k in
    let c = class_at (drop (after s k) s) in
    let r = class_passed (added t c) (t.count + 1) (after s k) (taken s k (h k (omega arith))).rows in
    classes_kept t c (tree_passes s k (λ j u. h j (omega arith))) r.0 r.1 r.2

pub tree_light : (s : List ℕ) (k : ℕ) → k ≤ 63 → ((j : ℕ) → j < k → passes s j ≡ true) → Light (tree_of s k)
tree_light s k u h = record {
  few = omega (arith, tree_count s k);
  light = λ i is. (weight_range (tree_of s k) i ((tree_passes s k h).weights i is)).1;
}

none_light : Light no_tree
none_light = record {
  few = omega arith;
  light = λ i is. (weight_range no_tree i ((none_pass false).weights i is)).1;
}

-- and what no record sets is 0
pub class_proper : (rest : List ℕ) → Proper (class_at rest)
unfolding class_at
class_proper rest = go (gives_leaf (kind_at rest))
  where
    go : (b : Bool) → Proper (cond b (leaf_class (body_of rest)) (inner_class (body_of rest)))
    go true = λ e. absurd (not_true_and_false refl e)
    go false = λ e. refl

pub tree_grown : (s : List ℕ) (k : ℕ) → k ≤ 63 → Grown (tree_of s k)
unfolding tree_of
tree_grown s zero u = none_grown (follows_of s)
tree_grown s (suc k) u =
    added_grown (tree_of s k) _ (tree_grown s k (omega arith)) (omega (arith, tree_count s k)) (class_proper (drop (after s k) s))

-- ---- the record that decides

pub row_all : (f : ℕ → Bool) (n : ℕ) → ((j : ℕ) → j < n → f j ≡ true) → in_row f n ≡ n
unfolding in_row
row_all f zero h = refl
row_all f (suc n) h = rw (eq-eqb (in_row f n) n (row_all f n (λ j u. h j (omega arith))), h n (omega arith))

pub row_stops : (f : ℕ → Bool) (n k : ℕ) → k < n → ((j : ℕ) → j < k → f j ≡ true) → f k ≡ false → in_row f n ≡ k
unfolding in_row
row_stops f zero k u h e = absurd (omega arith)
row_stops f (suc n) k u h e = go (dec_lt k n) (λ l. row_stops f n k l h e)
  where
    go : Dec (k < n) → (k < n → in_row f n ≡ k) → cond (eqb (in_row f n) n && f n) (suc n) (in_row f n) ≡ k
    go (yes l) ih =
        let here = ih l in
        rw (ne_eqb (in_row f n) n (λ z. omega arith)) here
    go (no l) ih =
        let is : n ≡ k = omega arith in
        let all : in_row f n ≡ n = row_all f n (λ j u. h j (omega arith)) in
        let off : f n ≡ false = rw is e in
        rw (eq-eqb (in_row f n) n all, off) (all ∙ is)

-- what the number in a row says of f
pub record RowOf (f : ℕ → Bool) (n k : ℕ) : Type 0 where
  pub most : k ≤ n
  pub below : (j : ℕ) → j < k → f j ≡ true
  pub here : k < n → f k ≡ false

pub row_of : (f : ℕ → Bool) (n : ℕ) → RowOf f n (in_row f n)
unfolding in_row
row_of f zero = record { most = omega arith; below = λ j u. absurd (omega arith); here = λ u. absurd (omega arith) }
row_of f (suc n) = go (row_of f n) (eqb (in_row f n) n && f n) refl
  where
    go : RowOf f n (in_row f n) → (b : Bool) → (eqb (in_row f n) n && f n) ≡ b → RowOf f (suc n) (cond b (suc n) (in_row f n))
    go ih true e =
        let h = both_true (eqb (in_row f n) n) (f n) e in
        let is = eqb-true (in_row f n) n h.0 in
        record {
          most = omega arith;
          below = λ j u. below_more (λ (i : ℕ). f i ≡ true) n (λ i v. ih.below i (omega arith)) h.1 j (omega arith);
          here = λ u. absurd (omega arith);
        }
    go ih false e = record { most = omega (arith, ih.most); below = ih.below; here = λ u. stop (dec_lt (in_row f n) n) }
      where
        stop : Dec (in_row f n < n) → f (in_row f n) ≡ false
        stop (yes l) = ih.here l
        stop (no l) =
            let is : in_row f n ≡ n = omega (arith, ih.most) in
            let off : f n ≡ false = rw (eq-eqb (in_row f n) n is) at e in
            rw is off

-- how many records are passed over
pub passed_over_lem : (s : List ℕ) (k : ℕ) → k ≤ 63 → ((j : ℕ) → j < k → passes s j ≡ true) → passes s k ≡ false → passed_over s ≡ k
unfolding passed_over
passed_over_lem s k u h e = go (dec_lt k 63)
  where
    go : Dec (k < 63) → in_row (passes s) 63 ≡ k
    go (yes l) = row_stops (passes s) 63 k l h e
    go (no l) =
        let is : k ≡ 63 = omega arith in
        row_all (passes s) 63 (λ j v. h j (omega arith)) ∙ sym is

-- a plan is its records, and then closing
pub plan_halves : (s : List ℕ) → plan_of s ≡ closed (records_of s)
unfolding plan_of records_of deciding_checks
plan_halves s = go (first_broken (checks_of s k)) refl
  where
    k : ℕ
    k = passed_over s

    go : (v : Verdict)
        → first_broken (checks_of s k) ≡ v
        → outcome (first_broken (checks_of s k ++ closing_checks (tree_of s k))) (tree_of s k) (after s k + 1)
        ≡ closed (outcome (first_broken (checks_of s k)) (tree_of s k) (after s k + 1))
    go (Ok _) e =
        rw e (ap (λ (v : Verdict). outcome v (tree_of s k) (after s k + 1)) (after_passed (checks_of s k) (closing_checks (tree_of s k)) e))
    go (Err _) e =
        rw e (ap (λ (v : Verdict). outcome v (tree_of s k) (after s k + 1)) (refused_before (checks_of s k) (closing_checks (tree_of s k)) e))

module _ (s : List ℕ) (k : ℕ) (most : k ≤ 63) (below : (j : ℕ) → j < k → passes s j ≡ true) where
  -- the records alone
  records_decided : passes s k ≡ false → records_of s ≡ outcome (first_broken (checks_of s k)) (tree_of s k) (after s k + 1)
  unfolding records_of
  records_decided e = rw (passed_over_lem s k most below e)

  pub records_refused : {n : Refusal} {p : ℕ} → first_broken (checks_of s k) ≡ Err (refusal_at n p) → records_of s ≡ outcome (Err (refusal_at n p)) no_tree 0
  records_refused e =
      records_decided (pass_refused s k e) ∙ ap (λ (v : Verdict). outcome v (tree_of s k) (after s k + 1)) e

  pub records_ended : first_broken (checks_of s k) ≡ Ok tt → gives_class (kind_at (drop (after s k) s)) ≡ false
      → records_of s ≡ outcome (Ok tt) (tree_of s k) (after s k + 1)
  records_ended e g =
      records_decided (pass_no_class s k g) ∙ ap (λ (v : Verdict). outcome v (tree_of s k) (after s k + 1)) e

  -- the whole plan: refused by a check of the record
  pub plan_refused : {n : Refusal} {p : ℕ} → first_broken (checks_of s k) ≡ Err (refusal_at n p) → plan_of s ≡ outcome (Err (refusal_at n p)) no_tree 0
  plan_refused e = plan_halves s ∙ ap closed (records_refused e)

  -- or after the end record, what the closing checks say
  pub plan_ended : first_broken (checks_of s k) ≡ Ok tt → gives_class (kind_at (drop (after s k) s)) ≡ false
      → plan_of s ≡ outcome (first_broken (closing_checks (tree_of s k))) (tree_of s k) (after s k + 1)
  plan_ended e g = plan_halves s ∙ ap closed (records_ended e g)

-- so far no weight is past its range, whatever the records say
pub records_light : (s : List ℕ) → Light (records_of s).tree
unfolding records_of passed_over
records_light s = go (first_broken (checks_of s k))
  where
    k : ℕ
    k = in_row (passes s) 63

    go : (v : Verdict) → Light (outcome v (tree_of s k) (after s k + 1)).tree
    go (Ok _) = tree_light s k (row_of (passes s) 63).most (row_of (passes s) 63).below
    go (Err _) = none_light

-- ---- the reader's state: some class records read, all of which pass

pub record ReadTo (s : List ℕ) (t : Tree) (place : ℕ) : Type 0 where
  pub tree : t ≡ tree_of s t.count
  pub at : place ≡ after s t.count
  pub most : t.count ≤ 63
  pub within : place ≤ length s
  pub below : (j : ℕ) → j < t.count → passes s j ≡ true

pub read_none : (s : List ℕ) → ReadTo s (ruled no_tree (follows_of s)) (after s 0)
unfolding tree_of
read_none s = record { tree = refl; at = refl; most = omega arith; within = start_within s; below = λ j u. absurd (omega arith) }

module _ (s : List ℕ) (t : Tree) (place : ℕ) (r : ReadTo s t place) where
  -- the checks of the record there are those of the definition
  same_checks : record_checks s place t ≡ checks_of s t.count
  same_checks =
      ap (λ (p : ℕ). record_checks s p t) r.at ∙ ap (λ (x : Tree). record_checks s (after s t.count) x) r.tree

  same_rest : drop place s ≡ drop (after s t.count) s
  same_rest = ap (λ (p : ℕ). drop p s) r.at

  pub read_stop : {n : Refusal} {p : ℕ} → first_broken (record_checks s place t) ≡ Err (refusal_at n p) → records_of s ≡ outcome (Err (refusal_at n p)) no_tree 0
  read_stop e = records_refused s t.count r.most r.below (ap first_broken (sym same_checks) ∙ e)

  pub read_end : first_broken (record_checks s place t) ≡ Ok tt → gives_class (kind_at (drop place s)) ≡ false
      → records_of s ≡ outcome (Ok tt) t (place + 1)
  read_end e g =
      records_ended s t.count r.most r.below (ap first_broken (sym same_checks) ∙ e)
      (ap (λ (x : List ℕ). gives_class (kind_at x)) (sym same_rest) ∙ g)
      ∙ ap (λ (x : Tree). outcome (Ok tt) x (after s t.count + 1)) (sym r.tree)
      ∙ ap (λ (p : ℕ). outcome (Ok tt) t (p + 1)) (sym r.at)

  pub read_onward : {next : ℕ} {t' : Tree} → StepSays s place t t' (Ok (Some next)) → (t'.count ≡ t.count + 1) × ReadTo s t' next
  read_onward {next} {t'} h =
      let here : passes s t.count ≡ true =
      pass_yes s t.count (ap (λ (x : List ℕ). gives_class (kind_at x)) (sym same_rest) ∙ h.1) (ap first_broken (sym same_checks) ∙ h.0)
      in
      let more : t'.count ≡ t.count + 1 = ap (λ (x : Tree). x.count) h.4 in
      let grown : t' ≡ tree_of s (t.count + 1) =
      h.4
      ∙ ap (λ (x : List ℕ). added t (class_at x)) same_rest
      ∙ ap (λ (x : Tree). added x (class_at (drop (after s t.count) s))) r.tree
      ∙ sym (tree_next s t.count)
      in
      let on : next ≡ after s (t.count + 1) =
      h.2
      ∙ ap (λ (x : List ℕ). place + 1 + (kind_at x).body) same_rest
      ∙ ap (λ (p : ℕ). p + 1 + (kind_at (drop (after s t.count) s)).body) r.at
      ∙ sym (after_next s t.count)
      in (
        more,
        record {
          tree = grown ∙ ap (tree_of s) (sym more);
          at = on ∙ ap (after s) (sym more);
          most = omega (arith, more, room_left s t.count here);
          within = h.3;
          below = λ j u. below_more (λ (k : ℕ). passes s k ≡ true) t.count r.below here j (omega (arith, more));
        },
      )

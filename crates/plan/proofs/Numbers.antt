-- The reader gives a number at a place exactly when its row says so and no earlier check is broken. Demand 1.
use mathlib.Core.Bool.{Bool, true, false, cond}
use mathlib.Core.List.{List, []}
use mathlib.Core.Logic.{◌⊎◌, inl, inr, ⊎_elim, ◌↔◌}
use mathlib.Core.Path.{◌≡◌, refl, sym, ap, subst, ◌∙◌}
use Prim.Native.Nat.{ℕ, zero, suc, ◌+◌, ◌≤◌, ◌<◌}
use native.Mathlib.Decide.{dec_lt}
use native.Mathlib.Omega.{arith}
use borrow.Author.Tests.{le-ltb}
use lib.ListN.{length}
use Rattle.checks.specs.declared.Refusal.TheVariants.{Cut, UnknownKind, TooMany, BadParent, BadWeight, BadLongest, TooHeavy, Childless, NoClass, BadRule, LateRule}
use Rattle.checks.specs.declared.Refusal.{Refusal}
use Rattle.checks.specs.declared.Refused.{Refused}
use Rattle.std.specs.Prelude.{Ok, Err}
use Rattle.checks.specs.Check.{check, first_broken, Verdict, refusal_at}
use Rattle.checks.proofs.Laws.{not_both, refused_or_passed, none_broken, not_true_and_false, decides, pass_over, passed_parts, after_passed}
use Rattle.checks.proofs.Laws.{refused_before, passed_both, broken_or_later, classes_which, classes_refused}
use Rattle.tree.specs.declared.Tree.{Tree}
use Rattle.tree.specs.declared.Class.{Class}
use Rattle.tree.specs.Class.{added, is_leaf, parent_of, weight_of, longest_of}
use Rattle.tree.specs.Rules.{PlanRules, too_many, bad_parent, bad_weight, bad_longest, too_heavy, childless, no_class, closing_of, closing_checks}
use Rattle.tree.proofs.AfterEnd.{closing_yes}
use Rattle.tree.proofs.Growth.{parent_stays, weight_stays, longest_stays, leaf_stays, parent_new, weight_new, longest_new, leaf_new}
use Rattle.tree.proofs.Classes.{class_in_lem, class_range, closing_passes, closing_passed}
use Rattle.plan.specs.declared.PlanRead.{PlanRead}
use Rattle.plan.specs.Event.{event_at, EventRead}
use Rattle.plan.specs.declared.kind.Section.TheVariants.{Plan}
use Rattle.plan.specs.Kind.{gives_class}
use Rattle.plan.specs.Record.{kind_at, missing, unknown, cut, late_rule, bad_rule, class_at}
use Rattle.plan.specs.Reader.{
  new_class_checks,
  record_checks,
  follows_of,
  after,
  tree_of,
  checks_of,
  passes,
  in_row,
  passed_over,
  deciding_checks,
}
use Rattle.plan.specs.Reader.{whole_checks, outcome, plan_of}
use Rattle.plan.specs.Rows.{rest_of, Reached, WholeRecord, ClassRecord, EndRecord, ClosedBelow, Row, row1_before, row2, row1_inside}
use Rattle.plan.specs.Rows.{row18, row17, row3, row4, row5, row6, row7, row8, row9}
use Rattle.plan.proofs.Reading.{tree_count, pass_yes, room_left, plan_refused, plan_ended, record_missing, record_unknown}
use Rattle.plan.proofs.Reading.{
  record_cut,
  record_whole,
  record_class_lem,
  record_end,
  whole_late,
  whole_bad,
  no_rule_here,
  row_of,
  tree_passes,
  tree_grown,
}

-- ---- from a row to the number

-- the checks of a whole record
whole_checks_lem : (s : List ℕ) (k : ℕ) → WholeRecord s k
    → first_broken (checks_of s k) ≡ first_broken (whole_checks (rest_of s k) (after s k) (tree_of s k))
whole_checks_lem s k r = record_whole s (after s k) (tree_of s k) r.there r.known r.whole

-- the checks of the class that a class record gives
class_checks_lem : (s : List ℕ) (k : ℕ) → ClassRecord s k
    → first_broken (checks_of s k) ≡ first_broken (new_class_checks (tree_of s (suc k)) (after s k))
unfolding tree_of
class_checks_lem s k r =
    record_class_lem s (after s k) (tree_of s k) r.record'.there r.record'.known r.record'.whole r.class

-- a record at which a plan is refused
refused_at : (s : List ℕ) (k : ℕ) → Reached s k → {n : Refusal} {p : ℕ} → first_broken (checks_of s k) ≡ Err (refusal_at n p) → (plan_of s).verdict ≡ Err (refusal_at n p)
refused_at s k r e = ap (λ (x : PlanRead). x.verdict) (plan_refused s k r.most r.below e)

outcome_verdict : (v : Verdict) (t : Tree) (u : ℕ) → (outcome v t u).verdict ≡ v
outcome_verdict (Ok _) t u = refl
outcome_verdict (Err _) t u = refl

-- the end record: the closing checks decide
closed_at : (s : List ℕ) (k : ℕ) → EndRecord s k → (plan_of s).verdict ≡ first_broken (closing_checks (tree_of s k))
closed_at s k r =
    let w = r.record' in
    ap (λ (x : PlanRead). x.verdict)
    (plan_ended s k w.reached.most w.reached.below
    (record_end s (after s k) (tree_of s k) w.there w.known w.whole r.end r.rule) r.end)
    ∙ outcome_verdict (first_broken (closing_checks (tree_of s k))) (tree_of s k) (after s k + 1)

-- class k + 1 is the last class of its tree
last_class : (s : List ℕ) (k : ℕ) (f : Tree → ℕ → Bool) (b : Bool) → f (tree_of s (suc k)) (suc k) ≡ b
    → f (tree_of s (suc k)) (tree_of s (suc k)).count ≡ b
last_class s k f b e = ap (f (tree_of s (suc k))) (tree_count s (suc k)) ∙ e

closed_below : (t : Tree) (c : ℕ) → ClosedBelow t c → (i : ℕ) → 1 ≤ i → i < c → first_broken (closing_of t i) ≡ Ok tt
closed_below t c b i l u = closing_passes t i (b.children i l u) (b.shares i l u)

pub row_gives : (s : List ℕ) (n : Refusal) (p : ℕ) → Row s n p → (plan_of s).verdict ≡ Err (refusal_at n p)
row_gives s n p (row1_before k r a) = refused_at s k r (record_missing s (after s k) (tree_of s k) a)
row_gives s n p (row2 k r a b) = refused_at s k r (record_unknown s (after s k) (tree_of s k) a b)
row_gives s n p (row1_inside k r a b d) = refused_at s k r (record_cut s (after s k) (tree_of s k) a b d)
row_gives s n p (row18 k r a) =
    refused_at s k r.reached (whole_checks_lem s k r ∙ whole_late (rest_of s k) (after s k) (tree_of s k) a)
row_gives s n p (row17 k r a b) =
    refused_at s k r.reached (whole_checks_lem s k r ∙ whole_bad (rest_of s k) (after s k) (tree_of s k) a b)
row_gives s n p (row3 k r a) = refused_at s k r.record'.reached (class_checks_lem s k r ∙ decides _ _ a)
row_gives s n p (row4 k r a b) =
    refused_at s k r.record'.reached (class_checks_lem s k r ∙ pass_over _ _ a ∙ decides _ _ (last_class s k bad_parent true b))
row_gives s n p (row5 k r a b d) =
    refused_at s k r.record'.reached
    (class_checks_lem s k r ∙ pass_over _ _ a ∙ pass_over _ _ (last_class s k bad_parent false b)
    ∙ decides _ _ (last_class s k bad_weight true d))
row_gives s n p (row6 k r a b d e) =
    refused_at s k r.record'.reached
    (class_checks_lem s k r
    ∙ pass_over _ _ a
    ∙ pass_over _ _ (last_class s k bad_parent false b)
    ∙ pass_over _ _ (last_class s k bad_weight false d)
    ∙ decides _ _ (last_class s k bad_longest true e))
row_gives s n p (row9 k r a) = closed_at s k r ∙ decides _ _ a
row_gives s n p (row8 k c r a is b d) =
    let t = tree_of s k in
    closed_at s k r
    ∙ pass_over _ _ a
    ∙ classes_refused (closing_of t) t.count c (class_range t c is).0 (class_range t c is).1 (closed_below t c b) (decides _ _ d)
row_gives s n p (row7 k c r a is b d e) =
    let t = tree_of s k in
    closed_at s k r
    ∙ pass_over _ _ a
    ∙ classes_refused (closing_of t) t.count c (class_range t c is).0 (class_range t c is).1 (closed_below t c b)
    (pass_over _ _ d ∙ decides _ _ e)

-- ---- from the number to its row

-- the record that decides is reached, and does not pass
pub deciding : (s : List ℕ) → Reached s (passed_over s) × (passes s (passed_over s) ≡ false)
unfolding passed_over
deciding s =
    let r = row_of (passes s) 63 in
    (record { most = r.most; below = r.below }, go (dec_lt (in_row (passes s) 63) 63))
  where
    go : Dec (in_row (passes s) 63 < 63) → passes s (in_row (passes s) 63) ≡ false
    go (yes l) = (row_of (passes s) 63).here l
    go (no l) = off (passes s (in_row (passes s) 63)) refl
      where
        off : (b : Bool) → passes s (in_row (passes s) 63) ≡ b → b ≡ false
        off true e = absurd (l (room_left s (in_row (passes s) 63) e))
        off false e = refl

-- a refusal with another's number and place
same_row : (s : List ℕ) {m : Refusal} {q : ℕ} {n : Refusal} {p : ℕ} → refusal_at m q ≡ refusal_at n p → Row s m q → Row s n p
same_row s {m} {q} {n} {p} e r =
    let a : m ≡ n = ap (λ (r : Refused). r.0) e in
    let b : q ≡ p = ap (λ (r : Refused). r.1) e in
    rw (← a, ← b) r

-- a record whose checks pass is whole
whole_record : (s : List ℕ) (k : ℕ) → Reached s k → first_broken (checks_of s k) ≡ Ok tt → WholeRecord s k
unfolding record_checks
whole_record s k reached e =
    let a = passed_parts (check Cut (missing (rest_of s k)) (length s)) _ e in
    let b = passed_parts (check UnknownKind (unknown Plan (rest_of s k)) (after s k)) _ a.1 in
    let d = passed_parts (check Cut (cut (rest_of s k)) (after s k)) _ b.1 in
    record { reached = reached; there = a.0; known = b.0; whole = d.0 }

-- and one that gives no class is the end record
end_record : (s : List ℕ) (k : ℕ) → Reached s k → first_broken (checks_of s k) ≡ Ok tt → gives_class (kind_at (rest_of s k)) ≡ false
    → EndRecord s k
end_record s k reached e g =
    let w = whole_record s k reached e in
    record { record' = w; end = g; rule = no_rule_here s k w.there w.known w.whole e }

module _ (s : List ℕ) (k : ℕ) {n : Refusal} {p : ℕ} where
  -- after the end record
  from_closing : EndRecord s k → first_broken (closing_checks (tree_of s k)) ≡ Err (refusal_at n p) → Row s n p
  from_closing r e =
      ⊎_elim (λ h. same_row s h.1 (row9 k r h.0)) (λ h. classes h.0 (classes_which (closing_of t) t.count h.1))
      (broken_or_later (check NoClass (no_class t) 0) _ e)
    where
      t : Tree
      t = tree_of s k

      classes : no_class t ≡ false
          → (c : ℕ) × (1 ≤ c) × (c ≤ t.count) × ((j : ℕ) → 1 ≤ j → j < c → first_broken (closing_of t j) ≡ Ok tt)
          × (first_broken (closing_of t c) ≡ Err (refusal_at n p))
          → Row s n p
      classes a w =
          let c = w.0 in
          let is = class_in_lem t c w.1 w.2 in
          let below : ClosedBelow t c = record {
            children = λ i l u. (closing_passed t i (w.3 i l u)).0;
            shares = λ i l u. (closing_passed t i (w.3 i l u)).1;
          } in
          ⊎_elim (λ h. same_row s h.1 (row8 k c r a is below h.0))
          (λ h.
          ⊎_elim (λ g. same_row s g.1 (row7 k c r a is below h.0 g.0)) (λ g. absurd (not_both none_broken g.1))
          (broken_or_later (check TooHeavy (too_heavy t c) c) [] h.1))
          (broken_or_later (check Childless (childless t c) c) _ w.4)

  -- the class of a class record
  from_class : ClassRecord s k → passes s k ≡ false → first_broken (checks_of s k) ≡ Err (refusal_at n p) → Row s n p
  from_class r off e =
      ⊎_elim (λ h. same_row s h.1 (row3 k r h.0))
      (λ h3.
      ⊎_elim (λ h. same_row s h.1 (row4 k r h3.0 (last bad_parent true h.0)))
      (λ h4.
      ⊎_elim (λ h. same_row s h.1 (row5 k r h3.0 (last bad_parent false h4.0) (last bad_weight true h.0)))
      (λ h5.
      ⊎_elim
      (λ h.
      same_row s h.1 (row6 k r h3.0 (last bad_parent false h4.0) (last bad_weight false h5.0) (last bad_longest true h.0)))
      (λ h6. absurd (not_both none_broken h6.1))
      (broken_or_later (check BadLongest (bad_longest t t.count) (after s k)) [] h5.1))
      (broken_or_later (check BadWeight (bad_weight t t.count) (after s k)) _ h4.1))
      (broken_or_later (check BadParent (bad_parent t t.count) (after s k)) _ h3.1))
      (broken_or_later (check TooMany (too_many t) (after s k)) _ (sym (class_checks_lem s k r) ∙ e))
    where
      t : Tree
      t = tree_of s (suc k)

      last : (f : Tree → ℕ → Bool) (b : Bool) → f t t.count ≡ b → f t (suc k) ≡ b
      last f b h = ap (f t) (sym (tree_count s (suc k))) ∙ h

  -- a whole record
  from_whole : WholeRecord s k → passes s k ≡ false → first_broken (checks_of s k) ≡ Err (refusal_at n p) → Row s n p
  from_whole w off e =
      ⊎_elim (λ h. same_row s h.1 (row18 k w h.0))
      (λ h18.
      ⊎_elim (λ h. same_row s h.1 (row17 k w h18.0 h.0))
      (λ h17. left (gives_class (kind_at (rest_of s k))) refl h17.1)
      (broken_or_later (check BadRule (bad_rule (rest_of s k)) (after s k)) _ h18.1))
      (broken_or_later (check LateRule (late_rule (rest_of s k) (after s k)) (after s k)) _ (sym (whole_checks_lem s k w) ∙ e))
    where
      t : Tree
      t = added (tree_of s k) (class_at (rest_of s k))

      left : (b : Bool) → gives_class (kind_at (rest_of s k)) ≡ b
          → first_broken (cond (gives_class (kind_at (rest_of s k))) (new_class_checks t (after s k)) []) ≡ Err (refusal_at n p) → Row s n p
      left true g h = from_class (record { record' = w; class = g }) off e
      left false g h = absurd (not_both none_broken (rw g at h))

  -- its head
  from_head : Reached s k → passes s k ≡ false → first_broken (checks_of s k) ≡ Err (refusal_at n p) → Row s n p
  unfolding record_checks
  from_head reached off e =
      ⊎_elim (λ h. same_row s h.1 (row1_before k reached h.0))
      (λ h1.
      ⊎_elim (λ h. same_row s h.1 (row2 k reached h1.0 h.0))
      (λ h2.
      ⊎_elim (λ h. same_row s h.1 (row1_inside k reached h1.0 h2.0 h.0))
      (λ h3. from_whole (record { reached = reached; there = h1.0; known = h2.0; whole = h3.0 }) off e)
      (broken_or_later (check Cut (cut (rest_of s k)) (after s k)) _ h2.1))
      (broken_or_later (check UnknownKind (unknown Plan (rest_of s k)) (after s k)) _ h1.1))
      (broken_or_later (check Cut (missing (rest_of s k)) (length s)) _ e)

  -- the record that decides
  from_record : Reached s k → passes s k ≡ false → first_broken (deciding_checks s k) ≡ Err (refusal_at n p) → Row s n p
  unfolding deciding_checks
  from_record reached off e = go (refused_or_passed (first_broken (checks_of s k)))
    where
      ended : first_broken (checks_of s k) ≡ Ok tt → (b : Bool) → gives_class (kind_at (rest_of s k)) ≡ b → Row s n p
      ended h true g = absurd (not_true_and_false (pass_yes s k g h) off)
      ended h false g =
          from_closing (end_record s k reached h g)
          (sym (after_passed (checks_of s k) (closing_checks (tree_of s k)) h) ∙ e)

      go : (first_broken (checks_of s k) ≡ Ok tt) ⊎ ((m : Refusal) × (q : ℕ) × (first_broken (checks_of s k) ≡ Err (refusal_at m q))) → Row s n p
      go (inl h) = ended h (gives_class (kind_at (rest_of s k))) refl
      go (inr h) = from_head reached off (h.2 ∙ sym (refused_before (checks_of s k) (closing_checks (tree_of s k)) h.2) ∙ e)

pub gives_row : (s : List ℕ) {n : Refusal} {p : ℕ} → (plan_of s).verdict ≡ Err (refusal_at n p) → Row s n p
unfolding plan_of
gives_row s e =
    let d = deciding s in
    from_record s (passed_over s) d.0 d.1
    (sym (outcome_verdict (first_broken (deciding_checks s (passed_over s))) (tree_of s (passed_over s)) (after s (passed_over s) + 1)) ∙ e)

-- number n at place p exactly when its row says so (R63)
pub number_exactly : (s : List ℕ) (n : Refusal) (p : ℕ) → ((plan_of s).verdict ≡ Err (refusal_at n p)) ↔ Row s n p
number_exactly s n p = (gives_row s, row_gives s n p)

-- ---- an accepted plan

-- class i of a tree is what a class record gives
pub record ClassIs (t : Tree) (i : ℕ) (c : Class) : Type 0 where
  pub parent : parent_of t i ≡ c.parent
  pub weight : weight_of t i ≡ c.weight.0
  pub longest : longest_of t i ≡ c.longest
  pub leaf : is_leaf t i ≡ c.leaf

-- the classes stand in plan order: class j + 1 is what the record after the first j gives
pub plan_order : (s : List ℕ) (k : ℕ) → k ≤ 63 → (j : ℕ) → j < k → ClassIs (tree_of s k) (suc j) (class_at (rest_of s j))
unfolding tree_of
plan_order s zero u j l = absurd (omega arith)
plan_order s (suc k) u j l = go (dec_lt j k) (λ m. plan_order s k (omega arith) j m)
  where
    t : Tree
    t = tree_of s k

    c : Class
    c = class_at (rest_of s k)

    new : j ≡ k → suc j ≡ t.count + 1
    new e = omega (arith, tree_count s k)

    go : Dec (j < k) → (j < k → ClassIs t (suc j) (class_at (rest_of s j))) → ClassIs (added t c) (suc j) (class_at (rest_of s j))
    go (yes m) ih =
        let h = ih m in
        let other : suc j ≡ t.count + 1 → ⊥ = λ z. omega (arith, tree_count s k) in
        record {
          parent = parent_stays t c (suc j) other ∙ h.parent;
          weight = weight_stays t c (suc j) other ∙ h.weight;
          longest = longest_stays t c (suc j) other ∙ h.longest;
          leaf = leaf_stays t c (suc j) other ∙ h.leaf;
        }
    go (no m) ih =
        let e : j ≡ k = omega arith in
        let g = tree_grown s k (omega arith) in
        let room : t.count < 63 = omega (arith, tree_count s k) in
        rw (new e, e)
        (record {
          parent = parent_new t c g room;
          weight = weight_new t c g room;
          longest = longest_new t c g room;
          leaf = leaf_new t c g room;
        })

-- the rule is 2 exactly where the plan begins with a rule record that says so; class records leave it (R222)
pub tree_follows : (s : List ℕ) (k : ℕ) → (tree_of s k).follows ≡ follows_of s
unfolding tree_of
tree_follows s zero = refl
tree_follows s (suc k) = tree_follows s k

-- the tree of records that pass, with an end record after which the closing checks pass, obeys the plan rules
pub tree_rules : (s : List ℕ) (k : ℕ) → Reached s k → first_broken (closing_checks (tree_of s k)) ≡ Ok tt → PlanRules (tree_of s k)
unfolding too_many
tree_rules s k r e = record {
  few = le-ltb 63 (tree_of s k).count (omega (arith, tree_count s k, r.most));
  each = tree_passes s k r.below;
  closing = closing_yes (tree_of s k) e;
  unset = (tree_grown s k r.most).unset;
}

-- an accepted plan: k classes, each record broke no rule, the end record followed, and the tree obeys the plan rules
pub record Accepted (s : List ℕ) (k : ℕ) : Type 0 where
  pub answer : plan_of s ≡ record { verdict = Ok tt; used = after s k + 1; tree = tree_of s k }
  pub ended : EndRecord s k
  pub rules : PlanRules (tree_of s k)

pub accepted : (s : List ℕ) → (plan_of s).verdict ≡ Ok tt → Accepted s (passed_over s)
unfolding plan_of deciding_checks
accepted s e =
    let k = passed_over s in
    let d = deciding s in
    let all : first_broken (deciding_checks s k) ≡ (Ok tt) =
    sym (outcome_verdict (first_broken (deciding_checks s k)) (tree_of s k) (after s k + 1)) ∙ e
    in
    let parts = passed_both (checks_of s k) (closing_checks (tree_of s k)) all in
    record {
      answer = ap (λ (v : Verdict). outcome v (tree_of s k) (after s k + 1)) all;
      ended = end_record s k d.0 parts.0 (no_class_lem (gives_class (kind_at (rest_of s k))) refl parts.0 d.1);
      rules = tree_rules s k d.0 parts.1;
    }
  where
    no_class_lem : (b : Bool)
        → gives_class (kind_at (rest_of s (passed_over s))) ≡ b
        → first_broken (checks_of s (passed_over s)) ≡ Ok tt
        → passes s (passed_over s) ≡ false
        → gives_class (kind_at (rest_of s (passed_over s))) ≡ false
    no_class_lem true g h off = absurd (not_true_and_false (pass_yes s (passed_over s) g h) off)
    no_class_lem false g h off = g

-- an accepted plan's tree obeys the plan rules
pub plan_rules : (s : List ℕ) (r : PlanRead) → r ≡ plan_of s → r.verdict ≡ Ok tt → PlanRules r.tree
plan_rules s r e passed =
    let a = accepted s (sym (ap (λ (x : PlanRead). x.verdict) e) ∙ passed) in
    subst (λ (x : PlanRead). PlanRules x.tree) (sym (e ∙ a.answer)) a.rules

-- ---- the contract determines the answer

-- any two answers that the reader's contract allows are equal
pub plan_one_answer : (s : List ℕ) (a b : PlanRead) → a ≡ plan_of s → b ≡ plan_of s → a ≡ b
plan_one_answer s a b e f = e ∙ sym f

pub event_one_answer : (rest : List ℕ) (place : ℕ) (a b : EventRead) → a ≡ event_at rest place → b ≡ event_at rest place → a ≡ b
event_one_answer rest place a b e f = e ∙ sym f

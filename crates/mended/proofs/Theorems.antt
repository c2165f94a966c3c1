-- What mending promises (R270, R272, R274): what comes back obeys the plan rules and has all but inner weights as read, mending it again
-- changes nothing, a sound plan comes back as it is, and what the reader refuses for another cause than 7 is refused alike.
use mathlib.Core.Bool.{Bool, true, false, cond, ◌&&◌}
use mathlib.Core.List.{List, [], ◌∷◌, ◌++◌}
use mathlib.Core.Logic.{◌⊎◌, inl, inr}
use mathlib.Core.Path.{◌≡◌, refl, sym, ap, subst, ◌∙◌}
use Prim.Native.Nat.{ℕ, zero, suc, ◌≤◌, ◌<◌}
use native.Mathlib.Omega.{arith}
use lib.Dec.{ltb}
use lib.ListN.{length}
use lib.Seq.{ext_get_or}
use borrow.Author.Tests.{le-ltb, ltb-false}
use Rattle.checks.specs.declared.Refusal.TheVariants.{TooHeavy, Childless, NoClass}
use Rattle.checks.specs.declared.Refusal.{Refusal}
use Rattle.checks.specs.declared.Refused.{Refused}
use Rattle.std.specs.Prelude.{Ok, Err}
use Rattle.checks.specs.Check.{check, first_broken, class_by_class, Verdict, refusal_at}
use Rattle.checks.proofs.Laws.{
  not_both,
  refused_or_passed,
  passed_parts,
  passed_both,
  classes_each,
  classes_passed,
  classes_refused,
  classes_which,
  pass_over,
  decides,
  broken_or_later,
  none_broken,
}
use Rattle.units.specs.declared.Weight.{Weight}
use Rattle.tree.specs.declared.Tree.{Tree}
use Rattle.tree.specs.Class.{no_tree, no_weight, weight_of, is_class, is_leaf, is_inner, is_child, of_child, children_sum, children_weight, has_child}
use Rattle.tree.specs.Rules.{
  too_many,
  bad_parent,
  bad_weight,
  bad_longest,
  too_heavy,
  childless,
  no_class,
  closing_of,
  closing_checks,
  ClassesPass,
  UnsetIsZero,
  PlanRules,
}
use Rattle.tree.proofs.Classes.{class_in_lem, class_range, closing_passed}
use Rattle.tree.proofs.Rules.{few_classes, weight_range}
use Rattle.tree.proofs.Sums.{sum_same}
use Rattle.tree.proofs.Growth.{Grown}
use Rattle.plan.specs.declared.PlanRead.{PlanRead}
use Rattle.plan.specs.Reader.{outcome, plan_of, records_of, closed}
use Rattle.plan.proofs.Reading.{plan_halves, records_light}
use Rattle.plan.proofs.Numbers.{plan_rules}
use Rattle.tree.proofs.Tables.{table_length, table_at}
use Rattle.mended.specs.declared.Mended.{Mended}
use Rattle.mended.specs.Weights.{mended_weight, needs_more, with_weights, mended_weights, mended_tree, Mends, AsRead}
use Rattle.mended.specs.Answer.{change_of, changes_to, listed, downward, child_checks, need_checks, mend_checks, answer, mend_of}
use Rattle.mended.proofs.Least.{inner_class_lem, no_class_not_inner, mended_at, mended_least, mended_mends, mended_own, mended_up}
use Rattle.mended.proofs.Downward.{down_passed, down_each}
use Rattle.mended.proofs.Answers.{records_pass, records_grown, mend_none, mend_child, mend_on, by_passed, by_refused}

-- the children of a class weigh in the mended tree what their mended weights add to
children_mended : (t : Tree) (p : ℕ) → t.count ≤ 63 → children_weight (mended_tree t) p ≡ children_sum t (mended_weight t) p
unfolding children_weight children_sum of_child is_child
children_mended t p few =
    sum_same (of_child (mended_tree t) (weight_of (mended_tree t)) p) (of_child t (mended_weight t) p) t.count
    (λ k l u. ap (λ (w : ℕ). cond (is_child t p k) w 0) (mended_at t k (omega arith)))

own_children : (t : Tree) (p : ℕ) → children_weight t p ≡ children_sum t (weight_of t) p
unfolding children_weight
own_children t p = refl

-- ---- a tree that obeys the plan rules

module _ (t : Tree) (rules : PlanRules t) where
  -- its own weights mend it
  own_mends : Mends t (weight_of t)
  unfolding too_heavy
  own_mends = record {
    leaves = λ i is f. refl;
    lowers_none = λ i is. omega arith;
    shares = λ i e.
        let h : children_weight t i ≤ weight_of t i = ltb-false _ _ (rw e at (rules.closing.shares i (inner_class_lem t i e))) in
        omega (arith, h, own_children t i);
  }

  -- so no weight changes
  pub sound_weight : (i : ℕ) → mended_weight t i ≡ weight_of t i
  sound_weight i = go (is_class t i) refl
    where
      few : t.count ≤ 63
      few = few_classes t rules

      go : (b : Bool) → is_class t i ≡ b → mended_weight t i ≡ weight_of t i
      go true is = omega (arith, mended_least t (weight_of t) own_mends i is, mended_up t few rules.each i)
      go false is = mended_own t few rules.each i (no_class_not_inner t i is)

  -- the list is empty, and the tree comes back
  pub sound_unchanged : (n : ℕ) → changes_to t n ≡ []
  unfolding changes_to change_of
  sound_unchanged zero = refl
  sound_unchanged (suc n) =
      rw (sound_unchanged n, le-ltb (weight_of t (suc n)) (mended_weight t (suc n)) (omega (arith, sound_weight (suc n)))) refl

  pub sound_tree : length t.weight ≡ 64 → mended_tree t ≡ t
  sound_tree many = ap (with_weights t) same
    where
      new : ℕ → Weight
      new i = record { 0 = mended_weight t i }

      same : mended_weights t ≡ t.weight
      same =
          ext_get_or no_weight (mended_weights t) t.weight (table_length new 64 ∙ sym many)
          (λ k u.
          table_at new no_weight 64 k (omega (arith, u, table_length new 64)) ∙ ap (λ (n : ℕ). record { 0 = n }) (sound_weight k))

  -- and nothing is refused
  pub sound_passes : first_broken (mend_checks t) ≡ Ok tt
  unfolding needs_more
  sound_passes =
      mend_on t rules.closing.classes
      (classes_passed (child_checks t) t.count
      (λ i l u. pass_over _ _ (rules.closing.children i (class_in_lem t i l u)) ∙ none_broken))
      ∙ down_passed (need_checks t) t.count (λ i l u. pass_over _ _ (fits i l u (is_inner t i)) ∙ none_broken)
    where
      fits : (i : ℕ) → 1 ≤ i → i ≤ t.count → (b : Bool) → (b && ltb 1_000_000 (mended_weight t i)) ≡ false
      fits i l u true =
          le-ltb 1_000_000 (mended_weight t i) (omega (
            arith,
            sound_weight i,
            (weight_range t i
                (rules.each.weights i (class_in_lem t i l u))).1,
          ))
      fits i l u false = refl

-- ---- a tree that the records gave, mended

module _ (t : Tree) (few : t.count ≤ 63) (each : ClassesPass t) (grown : Grown t) (ok : first_broken (mend_checks t) ≡ Ok tt) where
  parts : (no_class t ≡ false) × (first_broken (class_by_class (child_checks t) t.count ++ downward (need_checks t) t.count) ≡ Ok tt)
  parts = passed_parts _ _ ok

  both : (first_broken (class_by_class (child_checks t) t.count) ≡ Ok tt) × (first_broken (downward (need_checks t) t.count) ≡ Ok tt)
  both = passed_both (class_by_class (child_checks t) t.count) (downward (need_checks t) t.count) parts.1

  has_children : (i : ℕ) → is_class t i ≡ true → childless t i ≡ false
  has_children i is =
      let r = class_range t i is in
      (passed_parts _ _ (classes_each (child_checks t) t.count both.0 i r.0 r.1)).0

  fits : (i : ℕ) → is_class t i ≡ true → needs_more t i ≡ false
  fits i is =
      let r = class_range t i is in
      (passed_parts _ _ (down_each (need_checks t) t.count both.1 i r.0 r.1)).0

  narrow : (i : ℕ) → is_class t i ≡ true → i < 64
  narrow i is = omega (arith, (class_range t i is).1)

  -- each weight is in its range
  light : (i : ℕ) → is_class t i ≡ true → mended_weight t i ≤ 1_000_000
  unfolding needs_more
  light i is = go (is_inner t i) refl
    where
      go : (b : Bool) → is_inner t i ≡ b → mended_weight t i ≤ 1_000_000
      go true e = ltb-false 1_000_000 (mended_weight t i) (rw e at (fits i is))
      go false e = omega (arith, mended_own t few each i e, (weight_range t i (each.weights i is)).1)

  mended_weights_lem : (i : ℕ) → is_class t i ≡ true → bad_weight (mended_tree t) i ≡ false
  unfolding bad_weight
  mended_weights_lem i is =
      let e = mended_at t i (narrow i is) in
      let low : 1 ≤ weight_of (mended_tree t) i =
      omega (arith, e, mended_up t few each i, (weight_range t i (each.weights i is)).0)
      in
      let high : weight_of (mended_tree t) i ≤ 1_000_000 = omega (arith, e, light i is) in
      rw (le-ltb (weight_of (mended_tree t) i) 1 low, le-ltb 1_000_000 (weight_of (mended_tree t) i) high) refl

  mended_shares : (i : ℕ) → is_class t i ≡ true → too_heavy (mended_tree t) i ≡ false
  unfolding too_heavy is_inner is_class is_leaf
  mended_shares i is = go (is_inner t i) refl
    where
      go : (b : Bool) → is_inner t i ≡ b → (b && ltb (weight_of (mended_tree t) i) (children_weight (mended_tree t) i)) ≡ false
      go true e =
          le-ltb (weight_of (mended_tree t) i) (children_weight (mended_tree t) i)
          (omega (arith, mended_at t i (narrow i is), children_mended t i few, (mended_mends t few each).shares i e))
      go false e = refl

  -- what comes back obeys the plan rules
  pub mended_rules : PlanRules (mended_tree t)
  unfolding too_many bad_parent bad_longest childless no_class is_inner is_class is_leaf has_child is_child
  mended_rules = record {
    few = le-ltb 63 t.count few;
    each = record { parents = each.parents; weights = mended_weights_lem; longests = each.longests };
    closing = record { classes = parts.0; children = has_children; shares = mended_shares };
    unset = record { at = λ i u. unset i u (grown.unset.at i u); word = grown.unset.word };
  }
    where
      unset : (i : ℕ) → i < 64 → UnsetIsZero t i → UnsetIsZero (mended_tree t) i
      unset i u z = record {
        past = λ e. record {
          parent = (z.past e).parent;
          weight = mended_at t i u ∙ mended_own t few each i (no_class_not_inner t i e) ∙ (z.past e).weight;
          leaf = (z.past e).leaf;
        };
        longest = z.longest;
      }

  -- mending it again changes nothing
  pub mended_again : (mended_tree (mended_tree t) ≡ mended_tree t) × (changes_to (mended_tree t) t.count ≡ [])
  mended_again = (
    sound_tree (mended_tree t) mended_rules (table_length (λ i. record { 0 = mended_weight t i }) 64),
    sound_unchanged (mended_tree t) mended_rules t.count,
  )

  -- all but inner weights is as read
  pub mended_as_read : AsRead t (mended_tree t)
  mended_as_read = record {
    others = refl;
    weights = λ i u e. mended_at t i u ∙ mended_own t few each i e;
  }

-- ---- any bytes

-- what comes back was read, and passed 9, 8 and 22
record CameBack (s : List ℕ) : Type 0 where
  read : (records_of s).verdict ≡ Ok tt
  checked : first_broken (mend_checks (records_of s).tree) ≡ Ok tt
  gives : mend_of s ≡ answer (Ok tt) (records_of s).tree (records_of s).used

answer_says : (v : Verdict) (t : Tree) (used : ℕ) → (answer v t used).verdict ≡ v
answer_says (Ok _) t used = refl
answer_says (Err _) t used = refl

came_back : (s : List ℕ) → (mend_of s).verdict ≡ Ok tt → CameBack s
came_back s e = go (refused_or_passed (records_of s).verdict)
  where
    t : Tree
    t = (records_of s).tree

    go : ((records_of s).verdict ≡ Ok tt) ⊎ ((n : Refusal) × (p : ℕ) × ((records_of s).verdict ≡ Err (refusal_at n p))) → CameBack s
    go (inl r) =
        let is = by_passed (records_of s) r in
        let ok = sym (answer_says _ t (records_of s).used) ∙ ap (λ (m : Mended). m.verdict) (sym is) ∙ e in
        record { read = r; checked = ok; gives = is ∙ ap (λ (v : Verdict). answer v t (records_of s).used) ok }
    go (inr r) = absurd (not_both e (ap (λ (m : Mended). m.verdict) (by_refused (records_of s) r.2)))

module _ (s : List ℕ) (e : (mend_of s).verdict ≡ Ok tt) where
  tree_is : (mend_of s).tree ≡ mended_tree (records_of s).tree
  tree_is = ap (λ (m : Mended). m.tree) (came_back s e).gives

  -- what comes back obeys the plan rules
  pub obeys : PlanRules (mend_of s).tree
  obeys =
      rw tree_is
      (mended_rules (records_of s).tree (records_light s).few (records_pass s) (records_grown s) (came_back s e).checked)

  -- has all but inner weights as read
  pub as_read : AsRead (records_of s).tree (mend_of s).tree
  as_read =
      rw tree_is
      (mended_as_read (records_of s).tree (records_light s).few (records_pass s) (records_grown s) (came_back s e).checked)

  -- and the least weights of all that keep the leaves', lower none and obey rule 7
  pub least : (w : ℕ → ℕ) → Mends (records_of s).tree w → (i : ℕ) → is_class (records_of s).tree i ≡ true
      → weight_of (mend_of s).tree i ≤ w i
  least w m i is =
      rw tree_is
      (omega (
        arith,
        mended_at (records_of s).tree i (omega (arith, (class_range (records_of s).tree i is).1, (records_light s).few)),
        mended_least (records_of s).tree w m i is,
      ))

  -- mending it again changes nothing
  pub again : (mended_tree (mend_of s).tree ≡ (mend_of s).tree) × ((n : ℕ) → changes_to (mend_of s).tree n ≡ [])
  again = (
    rw tree_is
        (mended_again (records_of s).tree (records_light s).few (records_pass s) (records_grown s) (came_back s e).checked).0,
    sound_unchanged (mend_of s).tree obeys,
  )

-- a plan that the reader accepts comes back as it is, with an empty list
closed_passed : (r : PlanRead) → (closed r).verdict ≡ Ok tt → (r.verdict ≡ Ok tt) × (closed r ≡ outcome (Ok tt) r.tree r.used)
closed_passed r e = go (refused_or_passed r.verdict)
  where
    says : (v : Verdict) → (outcome v r.tree r.used).verdict ≡ v
    says (Ok _) = refl
    says (Err _) = refl

    go : (r.verdict ≡ Ok tt) ⊎ ((n : Refusal) × (p : ℕ) × (r.verdict ≡ Err (refusal_at n p)))
        → (r.verdict ≡ Ok tt) × (closed r ≡ outcome (Ok tt) r.tree r.used)
    go (inl h) =
        let is : closed r ≡ outcome (first_broken (closing_checks r.tree)) r.tree r.used = rw h in
        let ok = sym (says (first_broken (closing_checks r.tree))) ∙ ap (λ (x : PlanRead). x.verdict) (sym is) ∙ e in
        (h, is ∙ ap (λ (v : Verdict). outcome v r.tree r.used) ok)
    go (inr h) =
        let is : closed r ≡ r = rw h.2 in
        absurd (not_both e (ap (λ (x : PlanRead). x.verdict) is ∙ h.2))

pub accepted_stays : (s : List ℕ) → (plan_of s).verdict ≡ Ok tt
    → mend_of s ≡ record { verdict = Ok tt; used = (plan_of s).used; tree = (plan_of s).tree; changes = listed [] }
accepted_stays s e = by_passed r h.0 ∙ ap (λ (v : Verdict). answer v r.tree r.used) (sound_passes r.tree rules) ∙ back
  where
    r : PlanRead
    r = records_of s

    is : plan_of s ≡ closed r
    is = plan_halves s

    h : (r.verdict ≡ Ok tt) × (closed r ≡ outcome (Ok tt) r.tree r.used)
    h = closed_passed r (ap (λ (x : PlanRead). x.verdict) (sym is) ∙ e)

    same : plan_of s ≡ outcome (Ok tt) r.tree r.used
    same = is ∙ h.1

    rules : PlanRules r.tree
    rules = subst (λ (x : PlanRead). PlanRules x.tree) same (plan_rules s (plan_of s) refl e)

    back : answer (Ok tt) r.tree r.used
        ≡ record { verdict = Ok tt; used = (plan_of s).used; tree = (plan_of s).tree; changes = listed [] }
    back = rw (
      same,
      sound_tree r.tree rules (records_grown s).weights,
      sound_unchanged r.tree rules r.tree.count,
    ) refl

-- what the reader refuses for another cause than 7 is refused alike
pub refused_alike : (s : List ℕ) (n : Refusal) (p : ℕ) → (plan_of s).verdict ≡ Err (refusal_at n p) → (n ≡ TooHeavy → ⊥) → mend_of s ≡ answer (Err (refusal_at n p)) no_tree 0
refused_alike s n p e other = go (refused_or_passed r.verdict)
  where
    r : PlanRead
    r = records_of s

    t : Tree
    t = r.tree

    says : (v : Verdict) → (outcome v t r.used).verdict ≡ v
    says (Ok _) = refl
    says (Err _) = refl

    refuses : Refused → Verdict
    refuses q = Err q

    late : first_broken (closing_checks t) ≡ Err (refusal_at n p) → first_broken (mend_checks t) ≡ Err (refusal_at n p)
    late c = first (broken_or_later _ _ c)
      where
        at : no_class t ≡ false → (i : ℕ) → 1 ≤ i → i ≤ t.count → ((j : ℕ) → 1 ≤ j → j < i → first_broken (closing_of t j) ≡ Ok tt)
            → ((childless t i ≡ true) × (refusal_at Childless i ≡ refusal_at n p))
            ⊎ ((childless t i ≡ false) × (first_broken (check TooHeavy (too_heavy t i) i ∷ []) ≡ Err (refusal_at n p)))
            → first_broken (mend_checks t) ≡ Err (refusal_at n p)
        at some i l u below (inl h) =
            mend_child t some
            (classes_refused (child_checks t) t.count i l u
            (λ j a b. pass_over _ _ (closing_passed t j (below j a b)).0 ∙ none_broken) (decides _ _ h.0 ∙ ap refuses h.1))
        at some i l u below (inr h) = heavy (broken_or_later _ _ h.1)
          where
            heavy : ((too_heavy t i ≡ true) × (refusal_at TooHeavy i ≡ refusal_at n p)) ⊎ ((too_heavy t i ≡ false) × (first_broken [] ≡ Err (refusal_at n p)))
                → first_broken (mend_checks t) ≡ Err (refusal_at n p)
            heavy (inl z) = absurd (other (sym (ap (λ (q : Refused). q.0) z.1)))
            heavy (inr z) = absurd (not_both none_broken z.1)

        first : ((no_class t ≡ true) × (refusal_at NoClass 0 ≡ refusal_at n p))
            ⊎ ((no_class t ≡ false) × (first_broken (class_by_class (closing_of t) t.count) ≡ Err (refusal_at n p)))
            → first_broken (mend_checks t) ≡ Err (refusal_at n p)
        first (inl h) = mend_none t h.0 ∙ ap refuses h.1
        first (inr h) =
            let w = classes_which (closing_of t) t.count h.1 in
            at h.0 w.0 w.1 w.2 w.3 (broken_or_later _ _ w.4)

    go : (r.verdict ≡ Ok tt) ⊎ ((a : Refusal) × (b : ℕ) × (r.verdict ≡ Err (refusal_at a b))) → mend_of s ≡ answer (Err (refusal_at n p)) no_tree 0
    go (inl h) =
        let is : closed r ≡ outcome (first_broken (closing_checks t)) t r.used = rw h in
        let no = sym (says (first_broken (closing_checks t))) ∙ ap (λ (x : PlanRead). x.verdict) (sym (plan_halves s ∙ is)) ∙ e in
        by_passed r h ∙ ap (λ (v : Verdict). answer v t r.used) (late no)
    go (inr h) =
        let is : closed r ≡ r = rw h.2 in
        by_refused r (sym (ap (λ (x : PlanRead). x.verdict) (plan_halves s ∙ is)) ∙ e)

-- the contract leaves one answer
pub mend_one_answer : (s : List ℕ) (a b : Mended) → a ≡ mend_of s → b ≡ mend_of s → a ≡ b
mend_one_answer s a b e f = e ∙ sym f

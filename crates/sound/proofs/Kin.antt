-- Whether a class has an active child, told by the set of its children. Demand 2.
use Rattle.std.proofs.Common.{◌≡◌, ℕ, ◌-◌, ◌<◌, ◌≤◌, Bool, true, false, not, ◌&&◌, eqb, List, get_or, sym, refl, ap, ◌∙◌, ap₂, arith, eq-eqb, ne_eqb, eqb-true}
use native.Mathlib.Decide.{dec_le}
use Rattle.checks.proofs.Laws.{not_true_and_false}
use Rattle.sets.specs.Set.{has, Both}
use Rattle.sets.proofs.Laws.{has_empty, set_empty}
use Rattle.tree.specs.Class.{parent_of, longest_of, is_class, is_child}
use Rattle.tree.specs.Rules.{PlanRules}
use Rattle.tree.proofs.Classes.{both_true, class_in_lem}
use Rattle.shape.specs.Shape.{Families}
use Rattle.state.specs.declared.Link.{Link}
use Rattle.sound.specs.Steps.{parents_after, view_of, ClassRight}
use Rattle.sound.proofs.Active.{parents_only}
use Rattle.sound.proofs.Views.{child_after, past_parent, past_leaf}

module _ (l : Link) (rules : PlanRules l.tree) (children : List ℕ) (kin : Families l.tree children) where
  -- a number past the last class that is right is not active
  past_inactive : (k : ℕ) → l.tree.count < k → k < 64 → ClassRight (view_of l k) l.lengths (longest_of l.tree k)
      → has l.round.active k ≡ false
  unfolding view_of
  past_inactive k h u right = (right.view.other (past_leaf l rules k u h)).above ∙ past_parent l rules k u h

  -- a class is the parent of an active one after it exactly when its set of children and the active classes have one in common
  pub child_told : (i : ℕ) → i < 64 → ((k : ℕ) → i < k → k < 64 → ClassRight (view_of l k) l.lengths (longest_of l.tree k))
      → (b : ℕ) → Both (get_or children i 0) l.round.active b → not (eqb b 0) ≡ has (parents_after l.tree l.round.active i) i
  unfolding is_child
  child_told i u right b both = go (has (parents_after l.tree l.round.active i) i) refl
    where
      is_class_lem : (k : ℕ) → i < k → k < 64 → has l.round.active k ≡ true → Dec (k ≤ l.tree.count) → is_class l.tree k ≡ true
      is_class_lem k m v a (yes h) = class_in_lem l.tree k (omega (arith, m)) h
      is_class_lem k m v a (no h) = absurd (not_true_and_false a (past_inactive k (omega (arith, h)) v (right k m v)))

      in_both : (k : ℕ) → i < k → k < 64 → has l.round.active k ≡ true → parent_of l.tree k ≡ i → has b k ≡ true
      in_both k m v a p =
          both.both k
          ∙ ap₂ ◌&&◌ (kin.child i k u v ∙ ap₂ ◌&&◌ (is_class_lem k m v a (dec_le k l.tree.count)) (eq-eqb (parent_of l.tree k) i p)) a

      none_in : has (parents_after l.tree l.round.active i) i ≡ false → (k : ℕ) → k < 64 → (c : Bool) → has b k ≡ c → has b k ≡ false
      none_in h k v false e = e
      none_in h k v true e =
          let two = both_true (has (get_or children i 0) k) (has l.round.active k) (sym (both.both k) ∙ e) in
          let kind = both_true (is_class l.tree k) (eqb (parent_of l.tree k) i) (sym (kin.child i k u v) ∙ two.0) in
          let up = eqb-true (parent_of l.tree k) i kind.1 in
          absurd (not_true_and_false
          (child_after l rules i (record { child' = k; class = kind.0; parent = up; is_active = two.1 })) h)

      go : (c : Bool) → has (parents_after l.tree l.round.active i) i ≡ c
          → not (eqb b 0) ≡ has (parents_after l.tree l.round.active i) i
      go true h =
          let w = parents_only l.tree l.round.active (63 - i) i h in
          let some = in_both w.0 (omega (arith, w.1, u)) w.2 w.3 w.4 in
          ap not (ne_eqb b 0 (λ e. not_true_and_false some (ap (λ (s : ℕ). has s w.0) e ∙ has_empty w.0))) ∙ sym h
      go false h = ap not (eq-eqb b 0 (set_empty b both.fits (λ k v. none_in h k v (has b k) refl))) ∙ sym h

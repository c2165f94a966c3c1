-- An active child, by the sets of children.
use mathlib.Core.Bool.{Bool, true, false, ◌&&◌, and_comm}
use mathlib.Core.List.{List}
use mathlib.Core.Path.{◌≡◌, refl, sym, ap, ◌∙◌}
use Prim.Native.Nat.{ℕ, ◌<◌}
use native.Mathlib.Omega.{arith}
use lib.ListN.{get_or}
use Rattle.checks.proofs.Laws.{not_true_and_false}
use Rattle.sets.specs.Set.{has, Both}
use Rattle.sets.proofs.Laws.{has_empty, set_empty}
use Rattle.tree.specs.declared.Tree.{Tree}
use Rattle.tree.specs.Class.{is_class, is_child}
use Rattle.tree.specs.Rules.{PlanRules}
use Rattle.tree.specs.Sum.{some_to}
use Rattle.tree.proofs.Classes.{both_true, class_in_lem, class_range}
use Rattle.tree.proofs.Rules.{few_classes}
use Rattle.tree.proofs.Sums.{some_found, some_which}
use Rattle.shape.specs.Shape.{Families}
use Rattle.rules.specs.Active.{active_child}

module _
    (t : Tree) (children : List ℕ) (active p : ℕ) (rules : PlanRules t) (kin : Families t children) (u : p < 64)
    (common : ℕ) (both : Both active (get_or children p 0) common) where
  -- who is in both sets is an active child
  is_one : (i : ℕ) → is_class t i ≡ true → has common i ≡ active_child t active p i
  unfolding active_child
  is_one i is =
      let low : i < 64 = omega (arith, (class_range t i is).1, few_classes t rules) in
      both.both i
      ∙ ap (λ (b : Bool). has active i && b) (kin.child p i u low ∙ ap (λ (b : Bool). b && is_child t p i) is)
      ∙ and_comm (has active i) (is_child t p i)

  -- some class is in both exactly when there is one
  pub child_left : (common ≡ 0 → ⊥) → true ≡ some_to (active_child t active p) t.count
  child_left some = sym (go (some_to (active_child t active p) t.count) refl)
    where
      none : some_to (active_child t active p) t.count ≡ false → (k : ℕ) → k < 64 → has common k ≡ false
      none e k v = at (is_class t k) refl (has common k) refl
        where
          at : (b : Bool) → is_class t k ≡ b → (x : Bool) → has common k ≡ x → x ≡ false
          at b is false h = refl
          at true is true h =
              absurd (not_true_and_false
              (some_found (active_child t active p) t.count k (class_range t k is).0 (class_range t k is).1 (sym (is_one k is) ∙ h)) e)
          at false is true h =
              let mine = (both_true (has active k) (has (get_or children p 0) k) (sym (both.both k) ∙ h)).1 in
              absurd (not_true_and_false (both_true (is_class t k) (is_child t p k) (sym (kin.child p k u v) ∙ mine)).0 is)

      go : (b : Bool) → some_to (active_child t active p) t.count ≡ b → b ≡ true
      go true e = refl
      go false e = absurd (some (set_empty common both.fits (none e)))

  pub no_child_left : common ≡ 0 → false ≡ some_to (active_child t active p) t.count
  no_child_left z = sym (go (some_to (active_child t active p) t.count) refl)
    where
      go : (b : Bool) → some_to (active_child t active p) t.count ≡ b → b ≡ false
      go false e = refl
      go true e =
          let w = some_which (active_child t active p) t.count e in
          absurd (not_true_and_false (is_one w.0 (class_in_lem t w.0 w.1 w.2) ∙ w.3)
          (ap (λ (s : ℕ). has s w.0) z ∙ has_empty w.0))

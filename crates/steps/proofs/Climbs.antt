-- Turning inactive, class by class up.
use mathlib.Core.Bool.{Bool, true, false}
use mathlib.Core.List.{List}
use mathlib.Core.Path.{◌≡◌, refl, sym, ap, subst, ◌∙◌}
use Prim.Native.Nat.{ℕ, ◌<◌}
use native.Mathlib.Omega.{arith}
use lib.ListN.{set}
use Rattle.sets.specs.Set.{without}
use Rattle.tree.specs.declared.Tree.{Tree}
use Rattle.tree.specs.Class.{parent_of, is_class}
use Rattle.tree.specs.Rules.{PlanRules}
use Rattle.tree.specs.Sum.{some_to}
use Rattle.tree.proofs.Classes.{class_range}
use Rattle.tree.proofs.Rules.{few_classes}
use Rattle.state.specs.declared.Account.{Account}
use Rattle.state.specs.Account.{account_of, funds_of, returned, received}
use Rattle.rules.specs.Sending.{Books}
use Rattle.rules.specs.Active.{active_child}
use Rattle.rules.specs.Sending.{given_up, root_off, turns_off}
use Rattle.rules.proofs.GivenUp.{parent_class, turns_stays, turns_root, turns_up}

-- the books after a class has given up, from what the steps gave
pub given_by : (t : Tree) (i p : ℕ) (b : Books) (active funds : ℕ) (own none mine next : Account) (mid last : List Account)
    → parent_of t i ≡ p → active ≡ without b.active i
    → own ≡ account_of b.accounts i → none ≡ returned own → mid ≡ set b.accounts i none
    → mine ≡ account_of mid p → funds ≡ funds_of own → next ≡ received mine funds → last ≡ set mid p next
    → record { active = active; accounts = last } ≡ given_up t i b
unfolding given_up
given_by t i p b active funds own none mine next mid last e a o n m y h x l = rw (a, l, x, y, h, m, n, o, e) refl

-- a class of a tree is below 64
pub class_low : (t : Tree) (i : ℕ) → PlanRules t → is_class t i ≡ true → i < 64
class_low t i rules is = omega (arith, (class_range t i is).1, few_classes t rules)

-- class i has given up, and its parent is p: the three ways on
module _ (t : Tree) (i p : ℕ) (b b' : Books) (e : parent_of t i ≡ p) (same : b' ≡ given_up t i b) where
  left : (x : Bool) → x ≡ some_to (active_child t b'.active p) t.count
      → some_to (active_child t (given_up t i b).active (parent_of t i)) t.count ≡ x
  left x h = rw (e, ← same) (sym h)

  pub climb_stays : true ≡ some_to (active_child t b'.active p) t.count → b' ≡ turns_off 63 t i b
  climb_stays h = same ∙ sym (turns_stays t i b (left true h))

  pub climb_root : false ≡ some_to (active_child t b'.active p) t.count → p ≡ 0 → root_off b' ≡ turns_off 63 t i b
  climb_root h z = ap (λ (x : Books). root_off x) same ∙ sym (turns_root t i b (left false h) (e ∙ z))

  pub climb_class : PlanRules t → is_class t i ≡ true → (p ≡ 0 → ⊥) → is_class t p ≡ true
  climb_class rules is ne = subst (λ (k : ℕ). is_class t k ≡ true) e (parent_class t i rules is (λ z. ne (sym e ∙ z)))

  pub climb_up : PlanRules t → is_class t i ≡ true → false ≡ some_to (active_child t b'.active p) t.count → (p ≡ 0 → ⊥)
      → turns_off 63 t p b' ≡ turns_off 63 t i b
  climb_up rules is h ne = rw (← e, same) (sym (turns_up t i b rules is (left false h) (λ z. ne (sym e ∙ z))))

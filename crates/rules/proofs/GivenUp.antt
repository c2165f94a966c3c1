-- Turning inactive, and each class above without an active child after it (R140 to R143), one class at a time. Demand 2.
use mathlib.Core.Bool.{Bool, true, false}
use mathlib.Core.Path.{◌≡◌, refl, sym, ◌∙◌}
use Prim.Native.Nat.{ℕ, zero, suc, ◌≤◌, ◌<◌}
use native.Mathlib.Omega.{arith}
use lib.Dec.{eqb}
use lib.ListN.{length, set, length-set}
use borrow.Author.Tests.{eq-eqb, ne_eqb, eqb-true, eqb-false}
use Rattle.tree.specs.declared.Tree.{Tree}
use Rattle.tree.specs.Class.{parent_of, is_class}
use Rattle.tree.specs.Rules.{PlanRules}
use Rattle.tree.specs.Sum.{some_to}
use Rattle.tree.proofs.Classes.{class_in_lem, class_range}
use Rattle.tree.proofs.Rules.{parent_lower, few_classes}
use Rattle.state.specs.Account.{account_of, funds_of, returned, received}
use Rattle.sound.specs.Sound.{total}
use Rattle.rules.specs.Sending.{Books}
use Rattle.rules.specs.Active.{active_child}
use Rattle.rules.specs.Sending.{given_up, root_off, turns_off}
use Rattle.rules.proofs.Shares.{parent_most}
use Rattle.rules.proofs.Stores.{total_set}

-- a parent other than the root is a class
pub parent_class : (t : Tree) (i : ℕ) → PlanRules t → is_class t i ≡ true → (parent_of t i ≡ 0 → ⊥) → is_class t (parent_of t i) ≡ true
parent_class t i rules is ne =
    class_in_lem t (parent_of t i) (omega (arith, ne)) (omega (arith, parent_lower t i rules is, (class_range t i is).1))

-- one step up
pub turns_suc : (n : ℕ) (t : Tree) (i : ℕ) (b : Books) → turns_off (suc n) t i b
    ≡ elim (some_to (active_child t (given_up t i b).active (parent_of t i)) t.count) [
      | true ↦ given_up t i b
      | false ↦ elim (eqb (parent_of t i) 0) [ true ↦ root_off (given_up t i b) | false ↦ turns_off n t (parent_of t i) (given_up t i b) ]
    ]
unfolding turns_off
turns_suc n t i b = refl

-- it ends where the parent still has an active child
pub step_stays : (n : ℕ) (t : Tree) (i : ℕ) (b : Books) → some_to (active_child t (given_up t i b).active (parent_of t i)) t.count ≡ true
    → turns_off (suc n) t i b ≡ given_up t i b
step_stays n t i b some = turns_suc n t i b ∙ (rw some)

-- and at the root, which turns inactive with its last active child
pub step_root : (n : ℕ) (t : Tree) (i : ℕ) (b : Books) → some_to (active_child t (given_up t i b).active (parent_of t i)) t.count ≡ false
    → parent_of t i ≡ 0 → turns_off (suc n) t i b ≡ root_off (given_up t i b)
step_root n t i b none e = turns_suc n t i b ∙ (rw (none, eq-eqb (parent_of t i) 0 e))

-- otherwise the parent turns inactive likewise
pub step_up : (n : ℕ) (t : Tree) (i : ℕ) (b : Books) → some_to (active_child t (given_up t i b).active (parent_of t i)) t.count ≡ false
    → (parent_of t i ≡ 0 → ⊥) → turns_off (suc n) t i b ≡ turns_off n t (parent_of t i) (given_up t i b)
step_up n t i b none ne = turns_suc n t i b ∙ (rw (none, ne_eqb (parent_of t i) 0 ne))

-- enough steps are enough
pub turns_enough : (n m : ℕ) (t : Tree) (i : ℕ) (b : Books) → PlanRules t → is_class t i ≡ true → i ≤ n → i ≤ m
    → turns_off n t i b ≡ turns_off m t i b
turns_enough zero m t i b rules is a c = absurd (omega (arith, (class_range t i is).0))
turns_enough (suc n) zero t i b rules is a c = absurd (omega (arith, (class_range t i is).0))
turns_enough (suc n) (suc m) t i b rules is a c =
    go (some_to (active_child t (given_up t i b).active (parent_of t i)) t.count) refl (eqb (parent_of t i) 0) refl
    (λ is' low low'. turns_enough n m t (parent_of t i) (given_up t i b) rules is' low low')
  where
    go : (x : Bool) → some_to (active_child t (given_up t i b).active (parent_of t i)) t.count ≡ x → (y : Bool) → eqb (parent_of t i) 0 ≡ y
        → (is_class t (parent_of t i) ≡ true → parent_of t i ≤ n → parent_of t i ≤ m
        → turns_off n t (parent_of t i) (given_up t i b) ≡ turns_off m t (parent_of t i) (given_up t i b))
        → turns_off (suc n) t i b ≡ turns_off (suc m) t i b
    go true some y e ih = step_stays n t i b some ∙ sym (step_stays m t i b some)
    go false none true e ih =
        let top = eqb-true (parent_of t i) 0 e in
        step_root n t i b none top ∙ sym (step_root m t i b none top)
    go false none false e ih =
        let ne = eqb-false (parent_of t i) 0 e in
        let low = parent_lower t i rules is in
        step_up n t i b none ne
        ∙ ih (parent_class t i rules is ne) (omega (arith, low)) (omega (arith, low))
        ∙ sym (step_up m t i b none ne)

-- the three steps with as many steps left as there can be
module _ (t : Tree) (i : ℕ) (b : Books) where
  pub turns_stays : some_to (active_child t (given_up t i b).active (parent_of t i)) t.count ≡ true → turns_off 63 t i b ≡ given_up t i b
  turns_stays some = step_stays 62 t i b some

  pub turns_root : some_to (active_child t (given_up t i b).active (parent_of t i)) t.count ≡ false → parent_of t i ≡ 0
      → turns_off 63 t i b ≡ root_off (given_up t i b)
  turns_root none e = step_root 62 t i b none e

  pub turns_up : PlanRules t → is_class t i ≡ true → some_to (active_child t (given_up t i b).active (parent_of t i)) t.count ≡ false
      → (parent_of t i ≡ 0 → ⊥) → turns_off 63 t i b ≡ turns_off 63 t (parent_of t i) (given_up t i b)
  turns_up rules is none ne =
      let low = parent_lower t i rules is in
      let last = (class_range t i is).1 in
      let few = few_classes t rules in
      step_up 62 t i b none ne
      ∙ turns_enough 62 63 t (parent_of t i) (given_up t i b) rules (parent_class t i rules is ne) (omega arith) (omega arith)

-- what a class gives up its parent receives: nothing is lost, and there are as many accounts
pub given_length : (t : Tree) (i : ℕ) (b : Books) → length (given_up t i b).accounts ≡ length b.accounts
unfolding given_up
given_length t i b =
    let rest = set b.accounts i (returned (account_of b.accounts i)) in
    length-set rest (parent_of t i) (received (account_of rest (parent_of t i)) (funds_of (account_of b.accounts i)))
    ∙ length-set b.accounts i (returned (account_of b.accounts i))

pub given_total : (t : Tree) (i : ℕ) (b : Books) → length b.accounts ≡ 64 → i < 64 → parent_of t i < 64
    → total (given_up t i b).accounts ≡ total b.accounts
unfolding given_up
given_total t i b many u v =
    let funds = funds_of (account_of b.accounts i) in
    let rest = set b.accounts i (returned (account_of b.accounts i)) in
    let less = total_set b.accounts i (returned (account_of b.accounts i)) many u in
    let more =
    total_set rest (parent_of t i) (received (account_of rest (parent_of t i)) funds)
    (length-set b.accounts i (returned (account_of b.accounts i)) ∙ many) v
    in
    omega (arith, less, more)

-- so it is for all that turn inactive
pub turns_total : (n : ℕ) (t : Tree) (i : ℕ) (b : Books) → PlanRules t → i < 64 → length b.accounts ≡ 64
    → (total (turns_off n t i b).accounts ≡ total b.accounts) × (length (turns_off n t i b).accounts ≡ 64)
unfolding turns_off
turns_total zero t i b rules u many = (refl, many)
turns_total (suc n) t i b rules u many =
    go (some_to (active_child t (given_up t i b).active (parent_of t i)) t.count) (eqb (parent_of t i) 0)
    (turns_total n t (parent_of t i) (given_up t i b) rules low many')
  where
    low : parent_of t i < 64
    low = omega (arith, parent_most t i rules u)

    many' : length (given_up t i b).accounts ≡ 64
    many' = given_length t i b ∙ many

    same : total (given_up t i b).accounts ≡ total b.accounts
    same = given_total t i b many u low

    Kept : Books → Type 0
    Kept r = (total r.accounts ≡ total b.accounts) × (length r.accounts ≡ 64)

    go : (x y : Bool)
        → (total (turns_off n t (parent_of t i) (given_up t i b)).accounts ≡ total (given_up t i b).accounts)
        × (length (turns_off n t (parent_of t i) (given_up t i b)).accounts ≡ 64)
        → Kept (elim x [
          | true ↦ given_up t i b
          | false ↦ elim y [ true ↦ root_off (given_up t i b) | false ↦ turns_off n t (parent_of t i) (given_up t i b) ]
        ])
    go true y ih = (same, many')
    go false true ih = (same, many')
    go false false ih = (ih.0 ∙ same, ih.1)

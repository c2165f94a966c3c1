-- What turning inactive upward leaves (R140 to R143): who is active after it, and whose account is 0. Demand 2.
use mathlib.Core.Bool.{Bool, true, false, ◌&&◌}
use mathlib.Core.Path.{◌≡◌, refl, sym, ap, subst, ◌∙◌}
use Prim.Native.Nat.{ℕ, zero, suc, ◌^◌, ◌≤◌, ◌<◌}
use native.Mathlib.Decide.{ℕ_discrete}
use native.Mathlib.Omega.{arith}
use lib.Dec.{eqb}
use lib.ListN.{length, set}
use lib.Seq.{get_or-set_same, get_or-set_other}
use borrow.Author.Tests.{eq-eqb, eqb-true}
use Rattle.checks.proofs.Laws.{not_true_and_false}
use Rattle.sets.specs.Set.{has, without}
use Rattle.sets.proofs.Laws.{has_without_same, has_without_other, without_fits}
use Rattle.tree.specs.declared.Tree.{Tree}
use Rattle.tree.specs.Class.{parent_of, is_class, is_leaf, is_child}
use Rattle.tree.specs.Rules.{PlanRules}
use Rattle.tree.specs.Sum.{some_to}
use Rattle.tree.proofs.Classes.{both_true, class_in_lem, class_range}
use Rattle.tree.proofs.Rules.{parent_lower, parent_no_leaf, few_classes}
use Rattle.tree.proofs.Sums.{some_found, some_which}
use Rattle.state.specs.declared.Account.{Account}
use Rattle.state.specs.Account.{no_account, account_of, residual_of, funds_of, returned, received}
use Rattle.tree.specs.Below.{Above}
use Rattle.sound.proofs.Active.{ActiveChild, ByChild, parent_above}
use Rattle.rules.specs.Sending.{Books}
use Rattle.rules.specs.Active.{active_child}
use Rattle.rules.specs.Sending.{given_up, root_off, turns_off}
use Rattle.rules.proofs.GivenUp.{parent_class, step_stays, step_root, step_up, given_length}

-- what soundness says of books, but for which classes above are active
pub record BooksRight (t : Tree) (b : Books) : Type 0 where
  pub many : length b.accounts ≡ 64
  pub word : b.active < 2 ^ 64
  pub past : (k : ℕ) → t.count < k → has b.active k ≡ false
  pub empty : (k : ℕ) → 1 ≤ k → k < 64 → has b.active k ≡ false → funds_of (account_of b.accounts k) ≡ 0
  pub leaf : (k : ℕ) → k < 64 → is_leaf t k ≡ true → residual_of b.accounts k ≡ 0

-- class i is active without an active child; every other class above is active exactly when a child of it is
pub record TurningOff (t : Tree) (i : ℕ) (b : Books) : Type 0 where
  pub class : is_class t i ≡ true
  pub on : has b.active i ≡ true
  pub none : ActiveChild t b.active i → ⊥
  pub has_child_lem : (k : ℕ) → Above t k → (k ≡ i → ⊥) → has b.active k ≡ true → ActiveChild t b.active k
  pub from_child : (k : ℕ) → Above t k → ActiveChild t b.active k → has b.active k ≡ true

-- the books r are what turning class i inactive leaves of the books b
pub record TurnedOff (t : Tree) (i : ℕ) (b r : Books) : Type 0 where
  pub right : BooksRight t r
  pub by_child : ByChild t r.active
  pub off : has r.active i ≡ false
  pub shrinks : (k : ℕ) → has r.active k ≡ true → has b.active k ≡ true
  pub leaves : (k : ℕ) → is_leaf t k ≡ true → (k ≡ i → ⊥) → has r.active k ≡ has b.active k
  pub accounts : (k : ℕ) → is_leaf t k ≡ true → (k ≡ i → ⊥) → account_of r.accounts k ≡ account_of b.accounts k

-- an active leaf is a class without an active child
pub leaf_turning : (t : Tree) (i : ℕ) (b : Books) → PlanRules t → ByChild t b.active → is_class t i ≡ true → is_leaf t i ≡ true
    → has b.active i ≡ true → TurningOff t i b
leaf_turning t i b rules by is leaf on = record {
  class = is;
  on = on;
  none = λ c. not_true_and_false leaf (ap (is_leaf t) (sym c.parent) ∙ parent_no_leaf t c.child' rules c.class);
  has_child_lem = λ k ab ne a. by.has_child_lem k ab a;
  from_child = by.from_child;
}

-- what is in a set without a class was in it, and is not that class
left_in : (active i k : ℕ) → has (without active i) k ≡ true → (has active k ≡ true) × (k ≡ i → ⊥)
left_in active i k a = go (ℕ_discrete k i)
  where
    go : Dec (k ≡ i) → (has active k ≡ true) × (k ≡ i → ⊥)
    go (yes e) = absurd (not_true_and_false a (ap (has (without active i)) e ∙ has_without_same active i))
    go (no ne) = (sym (has_without_other active i k ne) ∙ a, ne)

left_child : (t : Tree) (active i k : ℕ) → ActiveChild t (without active i) k → ActiveChild t active k
left_child t active i k c = record {
  child' = c.child';
  class = c.class;
  parent = c.parent;
  is_active = (left_in active i c.child' c.is_active).0;
}

-- the search among the children finds one exactly where there is one
found_child : (t : Tree) (active p : ℕ) → some_to (active_child t active p) t.count ≡ true → ActiveChild t active p
unfolding active_child is_child
found_child t active p e =
    let w = some_which (active_child t active p) t.count e in
    let h = both_true (eqb (parent_of t w.0) p) (has active w.0) w.3 in
    record { child' = w.0; class = class_in_lem t w.0 w.1 w.2; parent = eqb-true (parent_of t w.0) p h.0; is_active = h.1 }

no_child : (t : Tree) (active p : ℕ) → some_to (active_child t active p) t.count ≡ false → ActiveChild t active p → ⊥
unfolding active_child is_child
no_child t active p e c =
    let r = class_range t c.child' c.class in
    let at : (eqb (parent_of t c.child') p && has active c.child')
    ≡ true = rw (eq-eqb (parent_of t c.child') p c.parent, c.is_active) in
    not_true_and_false (some_found (active_child t active p) t.count c.child' r.0 r.1 at) e

-- a class other than i and its parent keeps its account
given_other : (t : Tree) (i : ℕ) (b : Books) (k : ℕ) → (k ≡ i → ⊥) → (k ≡ parent_of t i → ⊥)
    → account_of (given_up t i b).accounts k ≡ account_of b.accounts k
unfolding given_up
given_other t i b k ne np =
    let rest = set b.accounts i (returned (account_of b.accounts i)) in
    get_or-set_other rest (parent_of t i) k (received (account_of rest (parent_of t i)) (funds_of (account_of b.accounts i))) no_account np
    ∙ get_or-set_other b.accounts i k (returned (account_of b.accounts i)) no_account ne

-- class i keeps nothing
given_same : (t : Tree) (i : ℕ) (b : Books) → (i ≡ parent_of t i → ⊥) → i < length b.accounts
    → account_of (given_up t i b).accounts i ≡ no_account
unfolding given_up
given_same t i b np u =
    let rest = set b.accounts i (returned (account_of b.accounts i)) in
    get_or-set_other rest (parent_of t i) i (received (account_of rest (parent_of t i)) (funds_of (account_of b.accounts i))) no_account np
    ∙ get_or-set_same b.accounts i (returned (account_of b.accounts i)) no_account u

-- class i gives up
module _ (t : Tree) (i : ℕ) (b : Books) (rules : PlanRules t) (h : TurningOff t i b) where
  -- its parent is lower and active, and stays active for now
  lower : parent_of t i < i
  lower = parent_lower t i rules h.class

  ends : i < 64
  ends = omega (arith, (class_range t i h.class).1, few_classes t rules)

  parent_on : has (without b.active i) (parent_of t i) ≡ true
  parent_on =
      has_without_other b.active i (parent_of t i) (λ e. omega (arith, lower))
      ∙ h.from_child (parent_of t i) (parent_above t b.active rules i h.class)
      (record { child' = i; class = h.class; parent = refl; is_active = h.on })

  -- a class other than its parent keeps its active children, and no class above gains one
  keeps_child : (k : ℕ) → Above t k → (k ≡ parent_of t i → ⊥) → has (without b.active i) k ≡ true
      → ActiveChild t (without b.active i) k
  keeps_child k ab np a =
      let w = left_in b.active i k a in
      let c = h.has_child_lem k ab w.1 w.0 in
      record {
        child' = c.child';
        class = c.class;
        parent = c.parent;
        is_active = has_without_other b.active i c.child' (λ e. np (sym c.parent ∙ ap (parent_of t) e)) ∙ c.is_active;
      }

  keeps_active : (k : ℕ) → Above t k → ActiveChild t (without b.active i) k → has (without b.active i) k ≡ true
  keeps_active k ab c =
      let c' = left_child t b.active i k c in
      has_without_other b.active i k (λ e. h.none (subst (ActiveChild t b.active) e c')) ∙ h.from_child k ab c'

  -- the books are as right as before: who turns inactive keeps nothing, and who receives is active and no leaf
  given_right : BooksRight t b → BooksRight t (given_up t i b)
  unfolding given_up
  given_right right = record {
    many = given_length t i b ∙ right.many;
    word = without_fits b.active i right.word;
    past = λ k u. has_without_other b.active i k (λ e. omega (arith, (class_range t i h.class).1)) ∙ right.past k u;
    empty = λ k l u a. empty k l u a (ℕ_discrete k i) (ℕ_discrete k (parent_of t i));
    leaf = λ k u f. leaf k u f (ℕ_discrete k i) (ℕ_discrete k (parent_of t i));
  }
    where
      kept : account_of (given_up t i b).accounts i ≡ no_account
      kept = given_same t i b (λ e. omega (arith, lower)) (omega (arith, right.many, ends))

      empty : (k : ℕ) → 1 ≤ k → k < 64 → has (without b.active i) k ≡ false → Dec (k ≡ i) → Dec (k ≡ parent_of t i)
          → funds_of (account_of (given_up t i b).accounts k) ≡ 0
      empty k l u a (yes e) d = ap (λ (j : ℕ). funds_of (account_of (given_up t i b).accounts j)) e ∙ ap funds_of kept
      empty k l u a (no ne) (yes e) = absurd (not_true_and_false parent_on (ap (has (without b.active i)) (sym e) ∙ a))
      empty k l u a (no ne) (no np) =
          ap funds_of (given_other t i b k ne np) ∙ right.empty k l u (sym (has_without_other b.active i k ne) ∙ a)

      leaf : (k : ℕ) → k < 64 → is_leaf t k ≡ true → Dec (k ≡ i) → Dec (k ≡ parent_of t i) → residual_of (given_up t i b).accounts k ≡ 0
      leaf k u f (yes e) d = ap (residual_of (given_up t i b).accounts) e ∙ ap (λ (a : Account). a.residual.0) kept
      leaf k u f (no ne) (yes e) = absurd (not_true_and_false f (ap (is_leaf t) e ∙ parent_no_leaf t i rules h.class))
      leaf k u f (no ne) (no np) = ap (λ (a : Account). a.residual.0) (given_other t i b k ne np) ∙ right.leaf k u f

  -- leaves other than class i keep their accounts
  given_leaf : (k : ℕ) → is_leaf t k ≡ true → (k ≡ i → ⊥) → account_of (given_up t i b).accounts k ≡ account_of b.accounts k
  given_leaf k f ne = given_other t i b k ne (λ e. not_true_and_false f (ap (is_leaf t) e ∙ parent_no_leaf t i rules h.class))

  -- where the parent has an active child left, that is all
  stays_off : BooksRight t b → ActiveChild t (given_up t i b).active (parent_of t i) → TurnedOff t i b (given_up t i b)
  unfolding given_up
  stays_off right c = record {
    right = given_right right;
    by_child = record { has_child_lem = λ k ab a. child_of k ab a (ℕ_discrete k (parent_of t i)); from_child = keeps_active };
    off = has_without_same b.active i;
    shrinks = λ k a. (left_in b.active i k a).0;
    leaves = λ k f ne. has_without_other b.active i k ne;
    accounts = given_leaf;
  }
    where
      child_of : (k : ℕ) → Above t k → has (without b.active i) k ≡ true → Dec (k ≡ parent_of t i)
          → ActiveChild t (without b.active i) k
      child_of k ab a (yes e) = subst (ActiveChild t (without b.active i)) (sym e) c
      child_of k ab a (no np) = keeps_child k ab np a

  -- the root turns inactive with its last active child
  root_off_lem : BooksRight t b → (ActiveChild t (given_up t i b).active (parent_of t i) → ⊥) → parent_of t i ≡ 0
      → TurnedOff t i b (root_off (given_up t i b))
  unfolding given_up
  root_off_lem right none e = record {
    right =
        record {
          many = (given_right right).many;
          word = without_fits (without b.active i) 0 (given_right right).word;
          past = λ k u. has_without_other (without b.active i) 0 k (λ z. omega arith) ∙ (given_right right).past k u;
          empty = λ k l u a. (given_right right).empty k l u (sym (has_without_other (without b.active i) 0 k (λ z. omega arith)) ∙ a);
          leaf = (given_right right).leaf;
        };
    by_child =
        record {
          has_child_lem = λ k ab a. child_of k ab (left_in (without b.active i) 0 k a);
          from_child =
              λ k ab c.
              let c' = left_child t (without b.active i) 0 k c in
              has_without_other (without b.active i) 0 k (λ z. none (subst (ActiveChild t (without b.active i)) (z ∙ sym e) c'))
              ∙ keeps_active k ab c';
        };
    off = has_without_other (without b.active i) 0 i (λ z. omega (arith, lower)) ∙ has_without_same b.active i;
    shrinks = λ k a. (left_in b.active i k (left_in (without b.active i) 0 k a).0).0;
    leaves =
        λ k f ne.
        has_without_other (without b.active i) 0 k
        (λ z. not_true_and_false f (ap (is_leaf t) (z ∙ sym e) ∙ parent_no_leaf t i rules h.class))
        ∙ has_without_other b.active i k ne;
    accounts = given_leaf;
  }
    where
      child_of : (k : ℕ) → Above t k → (has (without b.active i) k ≡ true) × (k ≡ 0 → ⊥)
          → ActiveChild t (without (without b.active i) 0) k
      child_of k ab w =
          let c = keeps_child k ab (λ z. w.1 (z ∙ e)) w.0 in
          record {
            child' = c.child';
            class = c.class;
            parent = c.parent;
            is_active =
                has_without_other (without b.active i) 0 c.child' (λ z. omega (arith, (class_range t c.child' c.class).0))
                ∙ c.is_active;
          }

  -- any other parent without an active child is next
  parent_next : (ActiveChild t (given_up t i b).active (parent_of t i) → ⊥) → (parent_of t i ≡ 0 → ⊥)
      → TurningOff t (parent_of t i) (given_up t i b)
  unfolding given_up
  parent_next none ne = record {
    class = parent_class t i rules h.class ne;
    on = parent_on;
    none = none;
    has_child_lem = keeps_child;
    from_child = keeps_active;
  }

  -- what turning the parent inactive leaves is what turning class i inactive leaves
  then_off : (r : Books) → TurnedOff t (parent_of t i) (given_up t i b) r → TurnedOff t i b r
  unfolding given_up
  then_off r o = record {
    right = o.right;
    by_child = o.by_child;
    off = off (has r.active i) refl;
    shrinks = λ k a. (left_in b.active i k (o.shrinks k a)).0;
    leaves = λ k f ne. o.leaves k f (no_parent k f) ∙ has_without_other b.active i k ne;
    accounts = λ k f ne. o.accounts k f (no_parent k f) ∙ given_leaf k f ne;
  }
    where
      no_parent : (k : ℕ) → is_leaf t k ≡ true → k ≡ parent_of t i → ⊥
      no_parent k f e = not_true_and_false f (ap (is_leaf t) e ∙ parent_no_leaf t i rules h.class)

      off : (x : Bool) → has r.active i ≡ x → has r.active i ≡ false
      off true a = absurd ((left_in b.active i i (o.shrinks i a)).1 refl)
      off false a = a

-- a class turns inactive, and so does each class above that has no active child left
pub turns_off_lem : (n : ℕ) (t : Tree) (i : ℕ) (b : Books) → PlanRules t → i ≤ n → BooksRight t b → TurningOff t i b
    → TurnedOff t i b (turns_off n t i b)
turns_off_lem zero t i b rules u right h = absurd (omega (arith, (class_range t i h.class).0))
turns_off_lem (suc n) t i b rules u right h =
    go (some_to (active_child t (given_up t i b).active (parent_of t i)) t.count) refl (ℕ_discrete (parent_of t i) 0)
    (λ next. turns_off_lem n t (parent_of t i) (given_up t i b) rules (omega (arith, parent_lower t i rules h.class))
    (given_right t i b rules h right) next)
  where
    go : (x : Bool) → some_to (active_child t (given_up t i b).active (parent_of t i)) t.count ≡ x → Dec (parent_of t i ≡ 0)
        → (TurningOff t (parent_of t i) (given_up t i b)
        → TurnedOff t (parent_of t i) (given_up t i b) (turns_off n t (parent_of t i) (given_up t i b)))
        → TurnedOff t i b (turns_off (suc n) t i b)
    go true e d ih = rw (step_stays n t i b e) (stays_off t i b rules h right (found_child t (given_up t i b).active (parent_of t i) e))
    go false e (yes z) ih =
        rw (step_root n t i b e z) (root_off_lem t i b rules h right (no_child t (given_up t i b).active (parent_of t i) e) z)
    go false e (no ne) ih =
        rw (step_up n t i b e ne)
        (then_off t i b rules h _ (ih (parent_next t i b rules h (no_child t (given_up t i b).active (parent_of t i) e) ne)))

-- so where an active leaf turns inactive, soundness of the books is kept and no other leaf changes
pub leaf_off : (t : Tree) (i : ℕ) (b : Books) → PlanRules t → ByChild t b.active → BooksRight t b → is_class t i ≡ true
    → is_leaf t i ≡ true
    → has b.active i ≡ true → TurnedOff t i b (turns_off 63 t i b)
leaf_off t i b rules by right is leaf on =
    turns_off_lem 63 t i b rules (omega (arith, (class_range t i is).1, few_classes t rules)) right (leaf_turning t i b rules by is leaf on)

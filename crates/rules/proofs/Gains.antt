-- In a main round every class that shares out has a quota of at least 1, so every active leaf gains at least its weight. Demands 2 and 3.
use mathlib.Core.Bool.{Bool, true, false, cond}
use mathlib.Core.Path.{◌≡◌}
use Prim.Native.Nat.{ℕ, zero, suc, ◌+◌, ◌/◌, ◌≤◌, zero-le}
use native.Mathlib.Decide.{ℕ_discrete}
use native.Mathlib.Nat.{le-div_iff_mul-le, le-mul_of_pos_right}
use native.Mathlib.Omega.{arith}
use borrow.Author.Tests.{ltb-false}
use Rattle.sets.specs.Set.{has}
use Rattle.tree.specs.declared.Tree.{Tree}
use Rattle.tree.specs.Class.{parent_of, weight_of, is_class, is_leaf, is_inner, is_child, of_child, children_sum, children_weight}
use Rattle.tree.specs.Rules.{too_heavy, PlanRules}
use Rattle.tree.proofs.Classes.{class_in_lem, class_range}
use Rattle.tree.proofs.Rules.{parent_lower}
use Rattle.state.specs.Account.{account_of, balance_of, funds_of}
use Rattle.state.specs.State.{State}
use Rattle.tree.specs.Below.{Above}
use Rattle.sound.specs.Sound.{Sound}
use Rattle.sound.proofs.Active.{parent_above}
use Rattle.rules.specs.Active.{active_weight, weight_sum, round_active}
use Rattle.rules.specs.Opening.{main, quota, next_kind, resized_accounts, opened_with, Resizes}
use Rattle.rules.specs.Sending.{next_leaf}
use Rattle.rules.proofs.Shares.{quota_root, quota_step}
use Rattle.rules.specs.Wide.{Wide}
use Rattle.rules.proofs.Closing.{class_few}
use Rattle.rules.proofs.Resized.{resized_has}
use Rattle.tree.proofs.Sums.{sum_within}
use Rattle.rules.proofs.Opened.{opened_leaf_lem}
use Rattle.rules.proofs.Taken.{taken_up, sum_some}

-- the active children of a class weigh at most what all its children weigh
sum_children : (t : Tree) (active p : ℕ) → weight_sum t active p ≤ children_weight t p
unfolding weight_sum children_weight children_sum of_child active_weight
sum_children t active p = sum_within _ _ t.count (λ i l u. go (is_child t p i) (has active i) (weight_of t i))
  where
    go : (a b : Bool) (w : ℕ) → cond a (cond b w 0) 0 ≤ cond a w 0
    go true true w = omega arith
    go true false w = zero-le
    go false b w = zero-le

-- 7: and those of an inner class at most what it weighs itself
sum_weight : (t : Tree) (active i : ℕ) → PlanRules t → is_class t i ≡ true → is_leaf t i ≡ false → weight_sum t active i ≤ weight_of t i
unfolding too_heavy is_inner
sum_weight t active i rules is inner =
    let e = rules.closing.shares i is in
    omega (arith, sum_children t active i, ltb-false (weight_of t i) (children_weight t i) (rw (is, inner) at e))

-- what covers a weight sum gives a quota
one_each : (h w : ℕ) → 1 ≤ w → w ≤ h → 1 ≤ h / w
one_each h w l u = (le-div_iff_mul-le {k = w} {x = 1} {y = h} l).1 (omega arith)

module _
    (s : State) (size : ℕ) (sound : Sound s) (wide : Wide s) (fit : Resizes s size) (closed : next_leaf s ≡ 64)
    (kind : next_kind s ≡ main) where
  rules : PlanRules s.tree
  rules = sound.fits.tree

  -- the quota of a class in the main round that opens
  share : ℕ → ℕ
  share p = quota main s.tree (round_active s) (resized_accounts size s) p

  -- the root's is from its part of the size
  root_share_lem : Above s.tree 0 → has (round_active s) 0 ≡ true → 1 ≤ share 0
  unfolding share
  root_share_lem ab on =
      rw (quota_root main s.tree (round_active s) (resized_accounts size s))
      (one_each (funds_of (account_of (resized_accounts size s) 0)) (weight_sum s.tree (round_active s) 0) (sum_some s rules 0 ab on)
      (resized_has s size sound wide fit closed kind))

  -- an inner class has at least its weight from its parent, which covers its weight sum
  inner_share : (i : ℕ) → is_class s.tree i ≡ true → Above s.tree i → has (round_active s) i ≡ true → 1 ≤ share (parent_of s.tree i)
      → 1 ≤ share i
  unfolding share
  inner_share i is ab on up =
      rw (quota_step main s.tree (round_active s) (resized_accounts size s) rules i (class_range s.tree i is).0
      (class_few s.tree i rules is))
      (one_each _ (weight_sum s.tree (round_active s) i) (sum_some s rules i ab on)
      (omega (arith, sum_weight s.tree (round_active s) i rules is ab.inner, le-mul_of_pos_right (weight_of s.tree i) up)))

  -- downward from the root; n is as many steps up to it as there can be
  share_down : (n p : ℕ) → p ≤ n → Above s.tree p → has (round_active s) p ≡ true → 1 ≤ share p
  share_down zero p u ab on =
      let z : p ≡ 0 = omega arith in
      rw z (root_share_lem (rw z at ab) (rw z at on))
  share_down (suc n) p u ab on = go (ℕ_discrete p 0) (λ k v abk onk. share_down n k v abk onk)
    where
      go : Dec (p ≡ 0) → ((k : ℕ) → k ≤ n → Above s.tree k → has (round_active s) k ≡ true → 1 ≤ share k) → 1 ≤ share p
      go (yes z) ih = rw z (root_share_lem (rw z at ab) (rw z at on))
      go (no z) ih =
          let is = class_in_lem s.tree p (omega arith) ab.class in
          let low = parent_lower s.tree p rules is in
          inner_share p is ab on
          (ih (parent_of s.tree p) (omega arith) (parent_above s.tree (round_active s) rules p is) (taken_up s rules p is on))

  -- every active class above has a quota
  pub main_quota : (p : ℕ) → Above s.tree p → has (round_active s) p ≡ true → 1 ≤ quota main s.tree (round_active s)
      (resized_accounts size s) p
  unfolding share
  main_quota p ab on = share_down p p (omega arith) ab on

-- and every active leaf gains at least its weight (R150)
pub main_gains : (s : State) (size : ℕ) → Sound s → Wide s → Resizes s size → next_leaf s ≡ 64 → next_kind s ≡ main → (i : ℕ) → is_class
    s.tree i ≡ true
    → is_leaf s.tree i ≡ true
    → has (round_active s) i ≡ true → balance_of s.round.accounts i + weight_of s.tree i
    ≤ balance_of (opened_with size s).round.accounts i
main_gains s size sound wide fit closed kind i is leaf on =
    let tree = sound.fits.tree in
    let up =
    main_quota s size sound wide fit closed kind (parent_of s.tree i) (parent_above s.tree (round_active s) tree i is)
    (taken_up s tree i is on)
    in
    let after = rw kind at (opened_leaf_lem s size sound wide i is leaf on).1 in
    omega (arith, after, le-mul_of_pos_right (weight_of s.tree i) up)

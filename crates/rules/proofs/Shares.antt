-- Laws of the fair quotas: each from its parent's, none hands down more than its class has, and all of them fit. Demand 2.
use mathlib.Core.Bool.{Bool, true, false}
use mathlib.Core.List.{List}
use mathlib.Core.Path.{◌≡◌, refl, sym, ap, ◌∙◌}
use Prim.Native.Nat.{ℕ, zero, suc, ◌+◌, ◌*◌, ◌/◌, ◌≤◌, ◌<◌, zero-le}
use native.Mathlib.Nat.{div-zero, div-le_self, div-mul-le_self, mul-le-mul_right, mul_comm, zero-mul}
use native.Mathlib.Omega.{arith}
use Rattle.checks.proofs.Laws.{not_true_and_false}
use Rattle.sets.specs.Set.{has}
use Rattle.tree.specs.declared.Tree.{Tree}
use Rattle.tree.specs.Class.{parent_of, weight_of, is_class}
use Rattle.tree.specs.Rules.{PlanRules}
use Rattle.tree.proofs.Classes.{root_no_class}
use Rattle.tree.proofs.Rules.{parent_lower, parent_below, weight_range}
use Rattle.tree.specs.Size.{most_size}
use Rattle.state.specs.declared.Account.{Account}
use Rattle.state.specs.Account.{account_of, funds_of}
use Rattle.rules.specs.Active.{weight_sum}
use Rattle.rules.specs.Opening.{Kind, main, surplus, root_quota, quota_in, quota}
use Rattle.rules.specs.Steps.{CanOpen}
use Rattle.rules.proofs.Sums.{within_sum, sum_without}

-- what is handed down at a quota is within what the quota was worked out from
pub quota_back : (h w s q : ℕ) → s ≡ w → q ≡ h / w → s * q ≤ h
quota_back h w s q e f = rw (e, f, mul_comm w (h / w)) (div-mul-le_self h w)

pub parent_most : (t : Tree) (i : ℕ) → PlanRules t → i < 64 → parent_of t i ≤ i
parent_most t zero rules u = omega (arith, ((rules.unset.at 0 u).past (root_no_class t)).parent)
parent_most t (suc i) rules u = omega (arith, parent_below t (suc i) rules (omega arith) u)

pub weight_most : (t : Tree) (i : ℕ) → PlanRules t → i < 64 → weight_of t i ≤ 1_000_000
weight_most t i rules u = go (is_class t i) refl
  where
    go : (b : Bool) → is_class t i ≡ b → weight_of t i ≤ 1_000_000
    go true is = (weight_range t i (rules.each.weights i is)).1
    go false is = omega (arith, ((rules.unset.at i u).past is).weight)

module _ (kind : Kind) (t : Tree) (active : ℕ) (accounts : List Account) where
  -- what class i has when it works out its quota
  pub has_of : ℕ → ℕ
  has_of zero = funds_of (account_of accounts 0)
  has_of (suc i) = funds_of (account_of accounts (suc i)) + weight_of t (suc i) * quota kind t active accounts (parent_of t (suc i))

  in_root : (n : ℕ) → quota_in n kind t active accounts 0 ≡ root_quota kind t active accounts
  unfolding quota_in
  in_root zero = refl
  in_root (suc n) = refl

  in_suc : (n i : ℕ) → quota_in (suc n) kind t active accounts (suc i)
      ≡ (funds_of (account_of accounts (suc i)) + weight_of t (suc i) * quota_in n kind t active accounts
      (parent_of t (suc i))) / weight_sum t active (suc i)
  unfolding quota_in
  in_suc n i = refl

  -- enough steps are enough
  in_stable : PlanRules t → (n m i : ℕ) → i ≤ n → i ≤ m → i < 64 → quota_in n kind t active accounts i ≡ quota_in m kind t active accounts i
  in_stable rules zero m i a b u =
      let e : i ≡ 0 = omega arith in
      rw e (in_root zero ∙ sym (in_root m))
  in_stable rules (suc n) m i a b u = go i m a b u (λ k j x y z. in_stable rules n k j x y z)
    where
      go : (i m : ℕ) → i ≤ suc n → i ≤ m → i < 64
          → ((k j : ℕ) → j ≤ n → j ≤ k → j < 64 → quota_in n kind t active accounts j ≡ quota_in k kind t active accounts j)
          → quota_in (suc n) kind t active accounts i ≡ quota_in m kind t active accounts i
      go zero m a b u ih = in_root (suc n) ∙ sym (in_root m)
      go (suc i) zero a b u ih = absurd (omega arith)
      go (suc i) (suc m) a b u ih =
          let low = parent_below t (suc i) rules (omega arith) u in
          in_suc n i
          ∙ ap (λ (q : ℕ). (funds_of (account_of accounts (suc i)) + weight_of t (suc i) * q) / weight_sum t active (suc i))
          (ih m (parent_of t (suc i)) (omega arith) (omega arith) (omega arith))
          ∙ sym (in_suc m i)

  pub quota_root : quota kind t active accounts 0 ≡ root_quota kind t active accounts
  unfolding quota
  quota_root = in_root 63

  -- a quota from the parent's
  pub quota_step : PlanRules t → (i : ℕ) → 1 ≤ i → i < 64
      → quota kind t active accounts i
      ≡ (funds_of (account_of accounts i) + weight_of t i * quota kind t active accounts (parent_of t i)) / weight_sum t active i
  unfolding quota
  quota_step rules zero l u = absurd (omega arith)
  quota_step rules (suc i) l u =
      let low = parent_below t (suc i) rules l u in
      in_suc 62 i
      ∙ ap (λ (q : ℕ). (funds_of (account_of accounts (suc i)) + weight_of t (suc i) * q) / weight_sum t active (suc i))
      (in_stable rules 62 63 (parent_of t (suc i)) (omega arith) (omega arith) (omega arith))

  pub has_suc : (i : ℕ) {m : ℕ} → has_of (suc i) ≤ m
      → funds_of (account_of accounts (suc i)) + weight_of t (suc i) * quota kind t active accounts (parent_of t (suc i)) ≤ m
  unfolding has_of
  has_suc i h = h

  -- no class hands down more than it has
  pub hands_within : PlanRules t → (i : ℕ) → i < 64 → quota kind t active accounts i * weight_sum t active i ≤ has_of i
  unfolding has_of
  hands_within rules zero u = rw quota_root (root kind)
    where
      root : (k : Kind) → root_quota k t active accounts * weight_sum t active 0 ≤ funds_of (account_of accounts 0)
      root main = div-mul-le_self (funds_of (account_of accounts 0)) (weight_sum t active 0)
      root surplus = omega arith
  hands_within rules (suc i) u = rw (quota_step rules (suc i) (omega arith) u) (div-mul-le_self _ (weight_sum t active (suc i)))

module _ (kind : Kind) (t : Tree) (active : ℕ) (accounts : List Account) (can : CanOpen t active accounts) where
  -- an active class's due is within what its parent has
  due_within : (i : ℕ) → i < 64 → is_class t i ≡ true → has active i ≡ true
      → weight_of t i * quota kind t active accounts (parent_of t i) ≤ has_of kind t active accounts (parent_of t i)
  due_within i u is a =
      let p = parent_of t i in
      let low = parent_lower t i can.rules is in
      omega (
        arith,
        mul-le-mul_right (quota kind t active accounts p) (within_sum t active i is a),
        mul_comm (weight_sum t active p) (quota kind t active accounts p),
        hands_within kind t active accounts can.rules p (omega arith),
      )

  -- an inactive class other than the root shares out nothing
  pub quota_inactive : (i : ℕ) → 1 ≤ i → i < 64 → has active i ≡ false → quota kind t active accounts i ≡ 0
  quota_inactive i l u off =
      quota_step kind t active accounts can.rules i l u
      ∙ ap (λ (w : ℕ). (funds_of (account_of accounts i) + weight_of t i * quota kind t active accounts (parent_of t i)) / w)
      (sum_without t active i (λ k is e a. not_true_and_false (ap (has active) (sym e) ∙ can.upward k is a) off))
      ∙ div-zero _

  -- what a class has is at most the ceiling of Q for each class down to it
  has_bound : (n i : ℕ) → i ≤ n → i < 64 → (1 ≤ i → has active i ≡ true) → has_of kind t active accounts i ≤ (i + 1) * most_size
  unfolding has_of
  has_bound zero i a u on =
      let e : i ≡ 0 = omega arith in
      rw e (omega (arith, can.small 0 (omega arith)))
  has_bound (suc n) i a u on = go i a u on (λ j x y z. has_bound n j x y z)
    where
      go : (i : ℕ) → i ≤ suc n → i < 64 → (1 ≤ i → has active i ≡ true)
          → ((j : ℕ) → j ≤ n → j < 64 → (1 ≤ j → has active j ≡ true) → has_of kind t active accounts j ≤ (j + 1) * most_size)
          → has_of kind t active accounts i ≤ (i + 1) * most_size
      go zero a u on ih = omega (arith, can.small 0 (omega arith))
      go (suc i) a u on ih = at (is_class t (suc i)) refl
        where
          at : (b : Bool) → is_class t (suc i) ≡ b
              → funds_of (account_of accounts (suc i)) + weight_of t (suc i) * quota kind t active accounts (parent_of t (suc i)) ≤
              (suc i + 1) * most_size
          at true is =
              let low = parent_lower t (suc i) can.rules is in
              omega (
                arith,
                can.small (suc i) u,
                due_within (suc i) u is (on (omega arith)),
                ih (parent_of t (suc i)) (omega arith) (omega arith) (λ l. can.upward (suc i) is (on (omega arith))),
              )
          at false is =
              let none = ((can.rules.unset.at (suc i) u).past is).weight in
              rw (none, zero-mul) (omega (arith, can.small (suc i) u))

  -- so every quota fits
  pub quota_most : (i : ℕ) → i < 64 → quota kind t active accounts i ≤ 64 * most_size
  quota_most i u = go i u
    where
      root : (k : Kind) → root_quota k t active accounts ≤ 64 * most_size
      root main = omega (arith, div-le_self (funds_of (account_of accounts 0)) (weight_sum t active 0), can.small 0 (omega arith))
      root surplus = zero-le

      other : (i : ℕ) → suc i < 64 → (b : Bool) → has active (suc i) ≡ b → quota kind t active accounts (suc i) ≤ 64 * most_size
      other i u true on =
          let most = has_bound 63 (suc i) (omega arith) u (λ l. on) in
          rw (quota_step kind t active accounts can.rules (suc i) (omega arith) u)
          (omega (
            arith,
            most_of i most,
            div-le_self
                (funds_of (account_of accounts (suc i)) + weight_of t (suc i) * quota kind t active accounts (parent_of t (suc i)))
                (weight_sum t active (suc i)),
          ))
        where
          most_of : (i : ℕ) → has_of kind t active accounts (suc i) ≤ (suc i + 1) * most_size
              → funds_of (account_of accounts (suc i)) + weight_of t (suc i) * quota kind t active accounts (parent_of t (suc i)) ≤
              (suc i + 1) * most_size
          most_of i h = has_suc kind t active accounts i h
      other i u false off = omega (arith, quota_inactive (suc i) (omega arith) u off)

      go : (i : ℕ) → i < 64 → quota kind t active accounts i ≤ 64 * most_size
      go zero u = rw (quota_root kind t active accounts) (root kind)
      go (suc i) u = other i u (has active (suc i)) refl

  -- and so does every due
  pub due_most : (i : ℕ) → i < 64 → weight_of t i * quota kind t active accounts (parent_of t i) ≤ 64 * most_size * 1_000_000
  due_most i u =
      let low = parent_most t i can.rules u in
      omega (
        arith,
        mul-le-mul_right (quota kind t active accounts (parent_of t i)) (weight_most t i can.rules u),
        quota_most (parent_of t i) (omega arith),
      )

  -- what a class hands down is within what it has
  pub down_within : (i : ℕ) → 1 ≤ i → i < 64
      → weight_sum t active i * quota kind t active accounts i
      ≤ funds_of (account_of accounts i) + weight_of t i * quota kind t active accounts (parent_of t i)
  down_within i l u =
      quota_back _ (weight_sum t active i) (weight_sum t active i) (quota kind t active accounts i) refl
      (quota_step kind t active accounts can.rules i l u)

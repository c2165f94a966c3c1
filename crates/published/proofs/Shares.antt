-- The quota that a class has or will work out, from its parent's.
use mathlib.Core.Bool.{cond}
use mathlib.Core.Path.{◌≡◌, refl, sym, ap, ◌∙◌}
use Prim.Native.Nat.{ℕ, zero, suc, ◌+◌, ◌*◌, ◌/◌, ◌<◌}
use native.Mathlib.Nat.{zero-mul}
use native.Mathlib.Decide.{ℕ_discrete}
use native.Mathlib.Omega.{arith}
use Rattle.tree.specs.Class.{parent_of, weight_of}
use Rattle.tree.specs.Rules.{PlanRules}
use Rattle.tree.proofs.Classes.{root_no_class}
use Rattle.tree.proofs.Rules.{parent_below}
use Rattle.state.specs.Account.{account_of, funds_of}
use Rattle.rules.specs.Active.{weight_sum}
use Rattle.published.specs.Asking.{Published, quota_at}
use Rattle.published.specs.Settled.{unasked, share_in, share}

-- what class i works out where its parent's quota is q
abbrev pub works_out : Published → ℕ → ℕ → ℕ
works_out x i q =
    (funds_of (account_of x.state.round.accounts i) + weight_of x.state.tree i * q) / weight_sum x.state.tree
    x.state.round.active i

module _ (x : Published) (rules : PlanRules x.state.tree) where
  share_suc : (n i : ℕ) → share_in (suc n) x i ≡ cond (unasked x i) (works_out x i (share_in n x (parent_of x.state.tree i))) (quota_at x i)
  unfolding share_in
  share_suc n i = refl

  -- the root has no weight: nothing is due to it
  root_works : (q r : ℕ) → works_out x 0 q ≡ works_out x 0 r
  root_works q r =
      let none = ((rules.unset.at 0 (omega arith)).past (root_no_class x.state.tree)).weight in
      rw (none, zero-mul q, zero-mul r)

  -- enough steps are enough
  share_stable : (n m i : ℕ) → i < n → i < m → i < 64 → share_in n x i ≡ share_in m x i
  share_stable zero m i a b u = absurd (omega arith)
  share_stable (suc n) zero i a b u = absurd (omega arith)
  share_stable (suc n) (suc m) i a b u =
      share_suc n i
      ∙ ap (λ (q : ℕ). cond (unasked x i) q (quota_at x i)) (go (ℕ_discrete i 0) (λ k c d e. share_stable n m k c d e))
      ∙ sym (share_suc m i)
    where
      go : Dec (i ≡ 0) → ((k : ℕ) → k < n → k < m → k < 64 → share_in n x k ≡ share_in m x k)
          → works_out x i (share_in n x (parent_of x.state.tree i)) ≡ works_out x i (share_in m x (parent_of x.state.tree i))
      go (yes z) ih = rw z (root_works _ _)
      go (no z) ih =
          let low = parent_below x.state.tree i rules (omega arith) u in
          ap (works_out x i) (ih (parent_of x.state.tree i) (omega arith) (omega arith) (omega arith))

  -- a quota from the parent's
  pub share_step : (i : ℕ) → i < 64 → share x i ≡ cond (unasked x i) (works_out x i (share x (parent_of x.state.tree i))) (quota_at x i)
  unfolding share
  share_step i u = share_suc 63 i ∙ ap (λ (q : ℕ). cond (unasked x i) q (quota_at x i)) (go (ℕ_discrete i 0))
    where
      go : Dec (i ≡ 0) → works_out x i (share_in 63 x (parent_of x.state.tree i)) ≡ works_out x i (share_in 64 x (parent_of
          x.state.tree i))
      go (yes z) = rw z (root_works _ _)
      go (no z) =
          let low = parent_below x.state.tree i rules (omega arith) u in
          ap (works_out x i) (share_stable 63 64 (parent_of x.state.tree i) (omega arith) (omega arith) (omega arith))

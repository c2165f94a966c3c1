-- Under rule 1 an opening is what it was before a size could change: the size stays, and the accounts are shared out as they are (R234).
-- Demand 2.
use mathlib.Core.Bool.{false}
use mathlib.Core.List.{List}
use mathlib.Core.Path.{◌≡◌, refl, sym, ap, ap₂, ◌∙◌}
use Prim.Native.Nat.{ℕ, zero, suc, ◌+◌, ◌-◌, ◌*◌, ◌/◌, ◌≤◌}
use native.Mathlib.Omega.{arith}
use borrow.Author.Tests.{ne_eqb}
use Rattle.tree.specs.declared.Tree.{Tree}
use Rattle.tree.specs.Class.{parent_of, weight_of}
use Rattle.state.specs.declared.Account.{Account}
use Rattle.state.specs.Account.{account, account_of, funds_of}
use Rattle.state.specs.State.{State, round_of, in_round}
use Rattle.tree.proofs.Tables.{table_same}
use Rattle.sound.specs.Sound.{Sound}
use Rattle.rules.specs.Active.{round_active, weight_sum}
use Rattle.rules.specs.Opening.{main, quota_in, quota, root_quota, due, hands_down, opened_leaf, opened_inner}
use Rattle.rules.specs.Opening.{opened_account, opened_accounts, next_kind, next_size, resized_accounts, opened_with, opened}
use Rattle.rules.specs.Wide.{Wide}
use Rattle.rules.proofs.Resized.{main_or_surplus, resized_surplus, resized_other, resized_account, next_resizes}

-- quotas read of the accounts only what each class holds
module _ (t : Tree) (active : ℕ) (xs ys : List Account) (same : (i : ℕ) → funds_of (account_of xs i) ≡ funds_of (account_of ys i)) where
  root_same : root_quota main t active xs ≡ root_quota main t active ys
  root_same = ap (λ (f : ℕ). f / weight_sum t active 0) (same 0)

  in_same : (n i : ℕ) → quota_in n main t active xs i ≡ quota_in n main t active ys i
  unfolding quota_in
  in_same zero i = root_same
  in_same (suc n) zero = root_same
  in_same (suc n) (suc i) =
      ap₂ (λ (f q : ℕ). (f + weight_of t (suc i) * q) / weight_sum t active (suc i)) (same (suc i)) (in_same n (parent_of t (suc i)))

  quota_same : (i : ℕ) → quota main t active xs i ≡ quota main t active ys i
  unfolding quota
  quota_same i = in_same 63 i

  -- and an account other than the root's is opened from itself and the quotas
  other_same : (i : ℕ) → 1 ≤ i → account_of xs i ≡ account_of ys i → opened_account main t active xs i ≡ opened_account main t active ys i
  unfolding opened_account opened_leaf opened_inner due hands_down
  other_same i l e = rw (ne_eqb i 0 (λ z. omega arith), e, quota_same (parent_of t i), quota_same i) refl

module _ (s : State) (sound : Sound s) (wide : Wide s) (rule : s.tree.follows ≡ false) where
  -- the size stays
  pub size_stays : next_size s ≡ s.round.size.0
  size_stays = (next_resizes s sound).right.whole rule ∙ sym (sound.fits.size.whole rule)

  module _ (kind : next_kind s ≡ main) where
    root_is : account_of (resized_accounts (next_size s) s) 0 ≡ account (funds_of (account_of s.round.accounts 0)) 0
    root_is =
        resized_account s (next_size s) wide kind ∙ ap (λ (n : ℕ). account n 0) (omega (arith, size_stays))

    holds_same : (i : ℕ) → funds_of (account_of (resized_accounts (next_size s) s) i) ≡ funds_of (account_of s.round.accounts i)
    holds_same zero = omega (arith, ap funds_of root_is)
    holds_same (suc i) = ap funds_of (resized_other s (next_size s) (suc i) (omega arith))

    each_same : (i : ℕ) → opened_account main s.tree (round_active s) (resized_accounts (next_size s) s) i
        ≡ opened_account main s.tree (round_active s) s.round.accounts i
    unfolding opened_account
    each_same zero =
        ap₂ (λ (n q : ℕ). account (n - weight_sum s.tree (round_active s) 0 * q) 0)
        (omega (arith, ap funds_of root_is))
        (root_same s.tree (round_active s) (resized_accounts (next_size s) s) s.round.accounts holds_same)
    each_same (suc i) =
        other_same s.tree (round_active s) (resized_accounts (next_size s) s) s.round.accounts holds_same (suc i) (omega arith)
        (resized_other s (next_size s) (suc i) (omega arith))

  -- so under rule 1 the accounts are shared out as they are
  accounts_same : opened_accounts (next_kind s) s.tree (round_active s) (resized_accounts (next_size s) s)
      ≡ opened_accounts (next_kind s) s.tree (round_active s) s.round.accounts
  unfolding opened_accounts
  accounts_same =
      main_or_surplus s
      (λ e. rw e (table_same _ _ 64 (λ i u. each_same e i)))
      (λ e. ap (opened_accounts (next_kind s) s.tree (round_active s)) (resized_surplus s (next_size s) e))

  pub rule_1_as_before : opened s ≡ in_round s
      (round_of s.round.size.0 (round_active s) 1 (opened_accounts (next_kind s) s.tree (round_active s) s.round.accounts))
  unfolding opened_with
  rule_1_as_before = ap₂ (λ (n : ℕ) (xs : List Account). in_round s (round_of n (round_active s) 1 xs)) size_stays accounts_same

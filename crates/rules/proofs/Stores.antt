-- A store changes a total by what it changes at that place. Demands 2 and 3.
use mathlib.Core.List.{List}
use mathlib.Core.Path.{◌≡◌, sym, ap}
use Prim.Native.Nat.{ℕ, zero, suc, ◌+◌, ◌<◌}
use native.Mathlib.Omega.{arith}
use lib.ListN.{length, set}
use lib.Seq.{get_or-set_same, get_or-set_other}
use Rattle.state.specs.declared.Account.{Account}
use Rattle.tree.proofs.Sums.{sum_same, sum_change}
use Rattle.state.specs.Account.{no_account, account_of, funds_of}
use Rattle.sound.specs.Sound.{total}

-- a total after a store
pub total_set : (xs : List Account) (i : ℕ) (a : Account) → length xs ≡ 64 → i < 64
    → total (set xs i a) + funds_of (account_of xs i) ≡ total xs + funds_of a
unfolding total
total_set xs zero a n u =
    let here = ap funds_of (get_or-set_same xs 0 a no_account (omega (arith, n))) in
    let rest =
    sum_same (λ k. funds_of (account_of (set xs 0 a) k)) (λ k. funds_of (account_of xs k)) 63
    (λ k l v. ap funds_of (get_or-set_other xs 0 k a no_account (λ z. omega arith)))
    in
    omega (arith, here, rest)
total_set xs (suc i) a n u =
    let here = ap funds_of (get_or-set_same xs (suc i) a no_account (omega (arith, n))) in
    let root = ap funds_of (get_or-set_other xs (suc i) 0 a no_account (λ z. omega arith)) in
    let rest =
    sum_change (λ k. funds_of (account_of xs k)) (λ k. funds_of (account_of (set xs (suc i) a) k)) 63 (suc i) (omega arith) (omega arith)
    (λ k ne. ap funds_of (sym (get_or-set_other xs (suc i) k a no_account ne)))
    in
    omega (arith, here, root, rest)

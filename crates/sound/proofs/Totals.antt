-- All B and R together: a total is at least each of its parts, and it is they added one by one. Demand 2.
use Rattle.std.proofs.Common.{◌≡◌, ℕ, zero, suc, ◌+◌, ◌-◌, ◌<◌, ◌≤◌, List, refl, arith}
use Rattle.tree.specs.Sum.{sum_to}
use Rattle.tree.proofs.Sums.{sum_part}
use Rattle.state.specs.declared.Account.{Account}
use Rattle.state.specs.Account.{account_of, funds_of}
use Rattle.sound.specs.Sound.{total}

pub total_part : (xs : List Account) (i : ℕ) → i < 64 → funds_of (account_of xs i) ≤ total xs
unfolding total
total_part xs zero u = omega arith
total_part xs (suc i) u = omega (arith, sum_part (λ k. funds_of (account_of xs k)) 63 (suc i) (omega arith) (omega arith))

-- the funds of the accounts 0 to n - 1: all of them are the total
unfoldable pub funds_below : List Account → ℕ → ℕ
funds_below xs zero = 0
funds_below xs (suc n) = funds_below xs n + funds_of (account_of xs n)

pub below_none : (xs : List Account) → funds_below xs 0 ≡ 0
unfolding funds_below
below_none xs = refl

pub below_step : (xs : List Account) (n : ℕ) → 1 ≤ n → funds_below xs n ≡ funds_below xs (n - 1) + funds_of (account_of xs (n - 1))
unfolding funds_below
below_step xs zero l = absurd (omega arith)
below_step xs (suc n) l = let e : suc n - 1 ≡ n = omega arith in rw e refl

below_sum : (xs : List Account) (n : ℕ) → funds_below xs (suc n) ≡ funds_of (account_of xs 0) + sum_to (λ i. funds_of (account_of xs i)) n
unfolding funds_below sum_to
below_sum xs zero = omega arith
below_sum xs (suc n) = omega (arith, below_sum xs n)

pub total_below : (xs : List Account) → funds_below xs 64 ≡ total xs
unfolding total
total_below xs = below_sum xs 63

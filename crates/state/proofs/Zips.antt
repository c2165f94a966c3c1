-- Laws of accounts made of two lists of numbers.
use Rattle.std.proofs.Common.{◌≡◌, ℕ, zero, suc, ◌<◌, List, [], ◌∷◌, length, get_or, set, sym, refl, ap, ◌∙◌, ap₂, arith, ext_get_or}
use Rattle.state.specs.declared.Account.{Account}
use Rattle.state.specs.Account.{account, no_account, account_of, balance_of, residual_of}
use Rattle.tree.specs.Sum.{table}
use Rattle.tree.proofs.Tables.{table_length, table_at}
use Rattle.state.specs.Account.{zip_accounts}

-- the account of class i, where there are so many
pub zip_at : (bs rs : List ℕ) (i : ℕ) → i < length (zip_accounts bs rs)
    → account_of (zip_accounts bs rs) i ≡ account (get_or bs i 0) (get_or rs i 0)
unfolding zip_accounts
zip_at [] rs i h = absurd (omega arith)
zip_at (b ∷ bs) [] i h = absurd (omega arith)
zip_at (b ∷ bs) (r ∷ rs) zero h = refl
zip_at (b ∷ bs) (r ∷ rs) (suc i) h = zip_at bs rs i (omega arith)

-- and its residual
pub zip_residual : (bs rs : List ℕ) (i : ℕ) → i < length (zip_accounts bs rs) → get_or rs i 0 ≡ (account_of (zip_accounts bs rs) i).residual.0
zip_residual bs rs i h = ap (λ (a : Account). a.residual.0) (sym (zip_at bs rs i h))

-- a store to both
pub zip_set : (bs rs : List ℕ) (i x y : ℕ) → zip_accounts (set bs i x) (set rs i y) ≡ set (zip_accounts bs rs) i (account x y)
unfolding zip_accounts
zip_set [] rs i x y = refl
zip_set (b ∷ bs) [] zero x y = refl
zip_set (b ∷ bs) [] (suc i) x y = refl
zip_set (b ∷ bs) (r ∷ rs) zero x y = refl
zip_set (b ∷ bs) (r ∷ rs) (suc i) x y = ap (λ (xs : List Account). account b r ∷ xs) (zip_set bs rs i x y)

-- a store to the first alone
pub zip_set_first : (bs rs : List ℕ) (i x : ℕ) → zip_accounts (set bs i x) rs ≡ set (zip_accounts bs rs) i (account x (get_or rs i 0))
unfolding zip_accounts
zip_set_first [] rs i x = refl
zip_set_first (b ∷ bs) [] zero x = refl
zip_set_first (b ∷ bs) [] (suc i) x = refl
zip_set_first (b ∷ bs) (r ∷ rs) zero x = refl
zip_set_first (b ∷ bs) (r ∷ rs) (suc i) x = ap (λ (xs : List Account). account b r ∷ xs) (zip_set_first bs rs i x)

-- there are as many
pub zip_length : (bs rs : List ℕ) → length bs ≡ length rs → length (zip_accounts bs rs) ≡ length bs
unfolding zip_accounts
zip_length [] rs e = refl
zip_length (b ∷ bs) [] e = absurd (omega arith)
zip_length (b ∷ bs) (r ∷ rs) e = ap suc (zip_length bs rs (omega arith))

-- accounts taken apart and put together again
pub zip_fields : (xs : List Account) → length xs ≡ 64 → zip_accounts (table (balance_of xs) 64) (table (residual_of xs) 64) ≡ xs
zip_fields xs e =
    let bs = table (balance_of xs) 64 in
    let rs = table (residual_of xs) 64 in
    let many : length (zip_accounts bs rs) ≡ 64 = zip_length bs rs (table_length (balance_of xs) 64 ∙ sym (table_length (residual_of xs) 64))
    ∙ table_length (balance_of xs) 64 in
    ext_get_or no_account (zip_accounts bs rs) xs (many ∙ sym e)
    (λ k m.
    let u : k < 64 = omega arith in
    zip_at bs rs k m ∙ ap₂ account (table_at (balance_of xs) 0 64 k u) (table_at (residual_of xs) 0 64 k u))

-- A class's account, and what it is after each step on it (R86 to R92). Demands 2 and 3.
use Rattle.std.specs.Prelude.{ℕ, ◌+◌, ◌-◌, List, [], ◌∷◌, slice_index_or}
use Rattle.state.specs.declared.Account.{Account}

-- the account with this balance and this residual (R86)
abbrev pub account : ℕ → ℕ → Account
account balance residual = record { balance = record { 0 = balance }; residual = record { 0 = residual } }

-- the account with nothing in it (R91)
abbrev pub no_account : Account
no_account = account 0 0

-- the account of class i, its balance B and its residual R (R86)
abbrev pub account_of : List Account → ℕ → Account
account_of xs i = slice_index_or xs i no_account

abbrev pub balance_of : List Account → ℕ → ℕ
balance_of xs i = (account_of xs i).balance.0

abbrev pub residual_of : List Account → ℕ → ℕ
residual_of xs i = (account_of xs i).residual.0

-- a class takes R and its due into B, and sets R to 0 (R87)
abbrev pub took_quota : Account → ℕ → Account
took_quota a due = account (a.balance.0 + a.residual.0 + due) 0

-- the root takes the difference between a new size and the old one, once its residual has joined its balance (R230)
abbrev pub took_size : Account → ℕ → ℕ → Account
took_size a old new = account (a.balance.0 + a.residual.0 + new - old) 0

-- a parent's balance falls by what it hands down (R88)
abbrev pub handed_down : Account → ℕ → Account
handed_down a due = account (a.balance.0 - due) a.residual.0

-- a leaf loses what its packet costs (R89)
abbrev pub sent_from : Account → ℕ → Account
sent_from a cost = account (a.balance.0 - cost) a.residual.0

-- the root's balance gains what a packet cost (R90)
abbrev pub gained : Account → ℕ → Account
gained a cost = account (a.balance.0 + cost) a.residual.0

-- a class that turns inactive keeps nothing (R91)
abbrev pub returned : Account → Account
returned a = no_account

-- a parent's residual gains what such a class had (R92)
abbrev pub received : Account → ℕ → Account
received a given = account a.balance.0 (a.residual.0 + given)

-- B + R (R92, R124)
abbrev pub funds_of : Account → ℕ
funds_of a = a.balance.0 + a.residual.0

-- the accounts with these balances and these residuals: as two lists they lie in the arrays that the steps are lent
unfoldable pub zip_accounts : List ℕ → List ℕ → List Account
zip_accounts [] rs = []
zip_accounts (b ∷ bs) [] = []
zip_accounts (b ∷ bs) (r ∷ rs) = account b r ∷ zip_accounts bs rs

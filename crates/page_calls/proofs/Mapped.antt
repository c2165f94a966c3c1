-- A table that is filled number by number from another array.
use mathlib.Core.List.{List}
use mathlib.Core.Path.{◌≡◌, sym, ◌∙◌}
use Prim.Native.Nat.{ℕ, ◌<◌}
use native.Mathlib.Omega.{arith}
use lib.ListN.{length, get_or}
use Rattle.std.proofs.lemmas.List.{same_lists}
use Rattle.tree.specs.Sum.{table}
use Rattle.tree.proofs.Tables.{table_length, table_at}

-- entries that are f's, as many as there are, are f's table
pub mapped : {A : Type 0} (f : ℕ → A) (n : ℕ) (ys : List A) → length ys ≡ n → ((k : ℕ) (e : A) → k < n → get_or ys k e ≡ f k) → ys ≡ table f n
mapped f n ys long each =
    same_lists ys (table f n) (long ∙ sym (table_length f n)) (λ k e h. each k e (omega arith) ∙ sym (table_at f e n k (omega arith)))

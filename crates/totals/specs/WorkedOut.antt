-- Totals in lent tables, while calls are made one after the other: a packet that comes or goes is counted at its leaf and at the root, and
-- what an inner class counts is worked out when the tables are handed back. No rule of its own.
use Rattle.std.specs.Prelude.{Bool, true, cond, List, ◌≡◌, ℕ, ◌+◌, ◌^◌, ◌≤◌, ◌<◌, get_or, set}
use Rattle.sets.specs.Set.{has}
use Rattle.tree.specs.declared.Tree.{Tree}
use Rattle.tree.specs.Class.{is_leaf, is_inner}
use Rattle.tree.specs.Below.{leaves_sum}
use Rattle.tree.specs.Sum.{sum_to, table}
use Rattle.state.specs.declared.Totals.{Totals}

-- what class i counts by such a table: an inner class what the leaves at or below it count, any other number its own
unfoldable pub worked_out_at : Tree → List ℕ → ℕ → ℕ
worked_out_at t xs i = cond (is_inner t i) (leaves_sum t (λ j. get_or xs j 0) i) (get_or xs i 0)

-- the table when all inner classes are worked out
unfoldable pub worked_out : Tree → List ℕ → List ℕ
worked_out t xs = table (worked_out_at t xs) 64

-- the totals that two tables stand for: worked out where it is told that their link is sound, and else as they lie
abbrev pub table_for : Bool → Tree → List ℕ → List ℕ
table_for sound t xs = cond sound (worked_out t xs) xs

abbrev pub totals_for : Bool → Tree → List ℕ → List ℕ → ℕ → Totals
totals_for sound t packets bytes charged = record { packets = table_for sound t packets; bytes = table_for sound t bytes; charged = charged }

-- a table with one number changed at a leaf and at the root
abbrev pub changed_ends : (ℕ → ℕ) → ℕ → List ℕ → List ℕ
changed_ends f i xs = set (set xs i (f (get_or xs i 0))) 0 (f (get_or xs 0 0))

-- a table in which a packet can be counted at leaf i: there and at the root it has room and, where it counts less, enough
pub record CountsAt (fewer : Bool) (by i : ℕ) (xs : List ℕ) : Type 0 where
  pub leaf : get_or xs i 0 < 2 ^ 32
  pub root : get_or xs 0 0 < 2 ^ 32
  pub less : fewer ≡ true → by ≤ get_or xs i 0
  pub least : fewer ≡ true → by ≤ get_or xs 0 0

-- a table whose leaves count little, so that sums of them fit
pub record Light (t : Tree) (xs : List ℕ) : Type 0 where
  pub few : (j : ℕ) → is_leaf t j ≡ true → get_or xs j 0 < 2 ^ 33

-- what the classes of a set count together
abbrev pub count_in : ℕ → List ℕ → ℕ → ℕ
count_in kin xs i = cond (has kin i) (get_or xs i 0) 0

unfoldable pub sum_in : ℕ → List ℕ → ℕ
sum_in kin xs = sum_to (count_in kin xs) 63

-- the table when the turn of class i has come: a leaf stays, an inner class counts what its children count together
abbrev pub turn_of : Bool → ℕ → ℕ → List ℕ → List ℕ
turn_of leaf i kin xs = cond leaf xs (set xs i (sum_in kin xs))

-- a set whose classes count little, so that their sum fits
pub record Addable (kin : ℕ) (xs : List ℕ) : Type 0 where
  pub few : (i : ℕ) → i < 64 → has kin i ≡ true → get_or xs i 0 < 2 ^ 50

-- totals with room to count one packet more at any class
pub record Roomy (totals : Totals) : Type 0 where
  pub packets : (k : ℕ) → k < 64 → get_or totals.packets k 0 < 2 ^ 32
  pub bytes : (k : ℕ) → k < 64 → get_or totals.bytes k 0 < 2 ^ 32

-- a table in which no number has grown by much
pub record Near (xs ys : List ℕ) : Type 0 where
  pub most : (k : ℕ) → get_or ys k 0 < get_or xs k 0 + 2 ^ 32

-- two tables that are worked out, with room to count one packet more
pub record InTotal (t : Tree) (packets bytes : List ℕ) : Type 0 where
  pub packets_out : packets ≡ worked_out t packets
  pub bytes_out : bytes ≡ worked_out t bytes
  pub room : Roomy (totals_for true t packets bytes 0)

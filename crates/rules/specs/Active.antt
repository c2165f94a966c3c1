-- Who is active, and what the active children of a class weigh (R119 to R123). Demand 2.
use Rattle.std.specs.Prelude.{Bool, cond, ◌&&◌, List, ℕ, zero, suc, leb, length}
use Rattle.sets.specs.Set.{has, with}
use Rattle.units.specs.declared.Weight.{Weight}
use Rattle.tree.specs.declared.Tree.{Tree}
use Rattle.tree.specs.Class.{weight_of, is_leaf, is_child, children_sum}
use Rattle.tree.specs.Below.{at_or_below}
use Rattle.tree.specs.Sum.{some_to, table}
use Rattle.state.specs.State.{State, queue_at}

-- class i is a leaf that holds a packet (R119, R120)
unfoldable pub waits : State → ℕ → Bool
waits s i = is_leaf s.tree i && leb 1 (length (queue_at s i))

-- a packet waits (R119)
unfoldable pub some_waits : State → Bool
some_waits s = some_to (waits s) s.tree.count

-- some class at or below class i is one of those that w tells (R121)
unfoldable pub some_below : Tree → (ℕ → Bool) → ℕ → Bool
some_below t w i = some_to (λ j. w j && at_or_below t i j) t.count

-- the set of the classes 0 to n for which f holds (R121)
unfoldable pub set_of : (ℕ → Bool) → ℕ → ℕ
set_of f zero = cond (f 0) (with 0 0) 0
set_of f (suc n) = cond (f (suc n)) (with (set_of f n) (suc n)) (set_of f n)

-- those classes, and every class above one (R121)
unfoldable pub upward : Tree → (ℕ → Bool) → ℕ
upward t w = set_of (some_below t w) t.count

-- the active classes of a round: the leaves that hold a packet, and every class above one (R120)
unfoldable pub round_active : State → ℕ
round_active s = upward s.tree (waits s)

-- class i is an active child of class p (R122)
unfoldable pub active_child : Tree → ℕ → ℕ → ℕ → Bool
active_child t active p i = is_child t p i && has active i

-- the weight of class i where it is active (R122)
unfoldable pub active_weight : Tree → ℕ → ℕ → ℕ
active_weight t active i = cond (has active i) (weight_of t i) 0

-- the weight sum of the active children of class p (R122)
unfoldable pub weight_sum : Tree → ℕ → ℕ → ℕ
weight_sum t active p = children_sum t (active_weight t active) p

-- all weight sums, by class number (R123)
unfoldable pub weight_sums : Tree → ℕ → List Weight
weight_sums t active = table (λ p. record { 0 = weight_sum t active p }) 64

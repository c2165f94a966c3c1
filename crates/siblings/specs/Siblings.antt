-- Two siblings, side by side: two leaves of one parent, two moments of a run at which a round has closed, what each leaf was charged
-- between them, and how far apart the two may drift (R250 to R256). Demand 2.
use Rattle.std.specs.Prelude.{true, cond, ◌&&◌, List, [], ◌∷◌, ◌++◌, ◌≡◌, ℕ, ◌+◌, ◌*◌, ◌-◌, ◌≤◌, eqb}
use Rattle.checks.specs.Check.{passed}
use Rattle.units.specs.Cost.{cost_of}
use Rattle.tree.specs.declared.Tree.{Tree}
use Rattle.tree.specs.Class.{parent_of, weight_of, longest_of, is_leaf}
use Rattle.state.specs.Queue.{held_of}
use Rattle.rules.specs.Sending.{Turn}
use Rattle.calls.specs.Run.{arrival, send, Made, made, link_left, Moment, closed, called}

-- classes i and j are two leaves of one parent (R250)
pub record Siblings (t : Tree) (i j : ℕ) : Type 0 where
  pub leaf : is_leaf t i ≡ true
  pub other : is_leaf t j ≡ true
  pub parent : parent_of t j ≡ parent_of t i

-- two of some moments at which a round has closed, in one send or in two, and the moments between them (R251)
pub record Closings (moments : List Moment) : Type 0 where
  pub before : List Moment
  pub first : Turn
  pub between : List Moment
  pub second : Turn
  pub after : List Moment
  pub order : moments ≡ before ++ (closed first ∷ between ++ (closed second ∷ after))

-- class i holds a packet at each of some moments: when each call has been made; a round that closes, and the one that opens, change no
-- queue. A class that does at every moment between two closings holds one at both: a send closed the first, and a send only takes (R252)
unfoldable pub Holding : ℕ → List Moment → Type 0
Holding i [] = Unit {0}
Holding i (closed turn ∷ moments) = Holding i moments
Holding i (called m ∷ moments) = (1 ≤ held_of (link_left m) i) × Holding i moments

-- what class i was charged by one call: what the packet that went costs, where it was of class i (R16, R253)
abbrev pub charge_of : ℕ → Made → ℕ
charge_of i (made (arrival class p) answer after) = 0
charge_of i (made send answer after) = cond (passed answer.verdict && eqb answer.class i) (cost_of answer.length) 0

-- at some moments (R253)
unfoldable pub charges_of : ℕ → List Moment → ℕ
charges_of i [] = 0
charges_of i (closed turn ∷ moments) = charges_of i moments
charges_of i (called m ∷ moments) = charge_of i m + charges_of i moments

-- the quotas of class p in the rounds that opened, added up (R256)
unfoldable pub quotas_of : ℕ → List Turn → ℕ
quotas_of p [] = 0
quotas_of p (turn ∷ turns) = turn.quotas p + quotas_of p turns

-- by how much two numbers differ (R254)
abbrev pub difference : ℕ → ℕ → ℕ
difference a b = (a - b) + (b - a)

-- how far apart two leaves are over some moments: the charges of i times j's weight, and those of j times i's weight (R254)
abbrev pub apart : Tree → ℕ → ℕ → List Moment → ℕ
apart t i j moments = difference (charges_of i moments * weight_of t j) (charges_of j moments * weight_of t i)

-- the bound: w_j × (L_i − 1) + w_i × (L_j − 1), L being what the longest packet costs (R255)
abbrev pub most_apart : Tree → ℕ → ℕ → ℕ
most_apart t i j = weight_of t j * (cost_of (longest_of t i) - 1) + weight_of t i * (cost_of (longest_of t j) - 1)

-- What the inner functions of the crate ask and give; no rule of its own.
use Rattle.std.specs.Prelude.{true, false, cond, List, ◌≡◌, ℕ, ◌+◌, ◌*◌, ◌≤◌, ◌<◌, min, leb, length, set}
use Rattle.tree.specs.declared.Tree.{Tree}
use Rattle.tree.specs.Class.{parent_of, weight_of, is_class, is_leaf, children_sum}
use Rattle.tree.specs.Rules.{PlanRules}
use Rattle.allot.specs.declared.Shares.{Shares}
use Rattle.allot.specs.declared.Split.{Split}
use Rattle.allot.specs.Request.{entry, request_of}
use Rattle.allot.specs.Share.{share_at, Fits, Largest}

-- a tree and leaves' requests in range
pub record RequestsInRange (t : Tree) (table : List ℕ) : Type 0 where
  pub rules : PlanRules t
  pub leaves : (i : ℕ) → is_class t i ≡ true → is_leaf t i ≡ true → entry table i ≤ 1_000_000_000

-- the requests of all classes, 0 at a number that is no class
pub record Requested (t : Tree) (table requests : List ℕ) : Type 0 where
  pub each : (i : ℕ) → i ≤ t.count → entry requests i ≡ request_of t table i
  pub past : (i : ℕ) → t.count < i → entry requests i ≡ 0
  pub entries : length requests ≡ 64

-- requests that add up: what sharing out needs to know of them
pub record Adding (t : Tree) (requests : List ℕ) : Type 0 where
  pub rules : PlanRules t
  pub small : (i : ℕ) → entry requests i ≤ 63_000_000_000
  pub sums : (p : ℕ) → p ≤ t.count → is_leaf t p ≡ false → entry requests p ≡ children_sum t (entry requests) p

-- how class p shares out what it has: F where its request is not met, and what stays unallotted
pub record Splits (t : Tree) (request : ℕ → ℕ) (p has f left : ℕ) : Type 0 where
  pub leaf : is_leaf t p ≡ true → left ≡ 0
  pub met : request p ≤ has → left ≡ 0
  pub unmet : is_leaf t p ≡ false → has < request p → Largest (Fits t request p has) f
  pub rest : is_leaf t p ≡ false → has < request p → left + children_sum t (share_at t request f) p ≡ has
  pub small : f ≤ 63_000_000_000

-- what a child gets of a class that has so much: all of its request where the class's is met, else its share at F
unfoldable pub child_gets : ℕ → ℕ → ℕ → ℕ → ℕ → ℕ
child_gets has asked request weight f = cond (leb asked has) request (min request (weight * f))

-- one class more is settled: what it gets, its F, and what stays unallotted at it
pub record Settles (t : Tree) (requests : List ℕ) (s : Shares) (i has : ℕ) (r : Shares) : Type 0 where
  pub split : Split
  pub splits : Splits t (entry requests) i has split.fair split.left
  pub gets : r.gets ≡ set s.gets i has
  pub fair : r.fair ≡ set s.fair i split.fair
  pub unallotted : r.unallotted ≡ set s.unallotted i split.left

-- the classes 0 to n are settled: the root has so much, each class above it gets its part of what its parent has
pub record Settled (t : Tree) (request : ℕ → ℕ) (has n : ℕ) (s : Shares) : Type 0 where
  pub root : entry s.gets 0 ≡ has
  pub part : (i : ℕ) → 1 ≤ i → i ≤ n
      → entry s.gets i
      ≡ child_gets (entry s.gets (parent_of t i)) (request (parent_of t i)) (request i) (weight_of t i) (entry s.fair (parent_of t i))
  pub splits : (p : ℕ) → p ≤ n → Splits t request p (entry s.gets p) (entry s.fair p) (entry s.unallotted p)
  pub past : (i : ℕ) → n < i → (entry s.gets i ≡ 0) × (entry s.unallotted i ≡ 0)
  pub entries : (length s.gets ≡ 64) × (length s.fair ≡ 64) × (length s.unallotted ≡ 64)

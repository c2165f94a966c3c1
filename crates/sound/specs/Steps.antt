-- What the inner functions of the decision say, in numbers; no rule of its own.
use Rattle.std.specs.Prelude.{◌≡◌, ℕ, zero, suc, ◌+◌, ◌-◌, ◌%◌, ◌<◌, ◌≤◌, max, Bool, true, false, cond, List, ◌==◌, nat_lt, slice_index}
use Rattle.sets.specs.Set.{has, with}
use Rattle.units.specs.declared.Bytes.{Bytes}
use Rattle.units.specs.Cost.{cost_of}
use Rattle.tree.specs.declared.Tree.{Tree}
use Rattle.tree.specs.Class.{parent_of, longest_of, is_leaf, of_child}
use Rattle.tree.specs.Sum.{sum_to}
use Rattle.state.specs.declared.Link.{Link}
use Rattle.shape.specs.Shape.{tree_in}
use Rattle.state.specs.Account.{account_of, zip_accounts}
use Rattle.state.specs.Queue.{start_of, held_of, slot}
use Rattle.state.specs.State.{link_of, round_of}
use Rattle.sound.specs.declared.View.{View}
use Rattle.sound.specs.Sound.{total}

-- the parents of the active ones among the n highest class numbers, as a set
unfoldable pub parents_down : Tree → ℕ → ℕ → ℕ
parents_down t active zero = 0
parents_down t active (suc n) = cond (has active (63 - n)) (with (parents_down t active n) (parent_of t (63 - n))) (parents_down t active n)

-- the parents of the active ones after class i: a class's children all come after it
abbrev pub parents_after : Tree → ℕ → ℕ → ℕ
parents_after t active i = parents_down t active (63 - i)

-- what the numbers after class i add to class p: x of each that has it for its parent
abbrev pub added_after : Tree → (ℕ → ℕ) → ℕ → ℕ → ℕ
added_after t x p i = sum_to (of_child t x p) 63 - sum_to (of_child t x p) i

-- the totals of a class number
abbrev pub packets_of : Link → ℕ → ℕ
packets_of l i = slice_index l.totals.packets i

abbrev pub bytes_of : Link → ℕ → ℕ
bytes_of l i = slice_index l.totals.bytes i

-- the numbers of class i that its clauses speak of
unfoldable pub view_of : Link → ℕ → View
view_of l i = record {
  class = i;
  place = l.round.place;
  size = l.round.size;
  leaf = is_leaf l.tree i;
  active = has l.round.active i;
  child = has (parents_after l.tree l.round.active i) i;
  start = start_of l i;
  held = held_of l i;
  first = slice_index l.lengths (slot i (start_of l i % 32));
  account = account_of l.round.accounts i;
  packets = packets_of l i;
  bytes = bytes_of l i;
  waiting = added_after l.tree (packets_of l) i i;
  cost = added_after l.tree (bytes_of l) i i;
}

-- the clauses of soundness at a leaf, in its numbers
pub record LeafRight (v : View) : Type 0 where
  pub few : v.held ≤ 32
  pub packets : v.packets ≡ v.held
  pub waits : v.active ≡ true → 1 ≤ v.held
  pub balance : v.active ≡ false → v.account.balance.0 ≡ 0
  pub residual : v.account.residual.0 ≡ 0
  pub lacks : v.active ≡ true → v.class < v.place → v.account.balance.0 < cost_of v.first

-- at any other number
pub record OtherRight (v : View) : Type 0 where
  pub none : v.held ≡ 0
  pub packets : v.packets ≡ v.waiting
  pub bytes : v.bytes ≡ v.cost
  pub above : v.active ≡ v.child
  pub balance : 1 ≤ v.class → v.active ≡ false → v.account.balance.0 ≡ 0
  pub residual : 1 ≤ v.class → v.active ≡ false → v.account.residual.0 ≡ 0

-- and at any number: neither B nor R is more than all of them together
pub record ViewRight (v : View) : Type 0 where
  pub start : v.start ≤ 31
  pub balance : v.account.balance.0 ≤ v.size.0
  pub residual : v.account.residual.0 ≤ v.size.0
  pub leaf : v.leaf ≡ true → LeafRight v
  pub other : v.leaf ≡ false → OtherRight v

-- a size that may be in force, in numbers: whether it follows who is active, and the whole tree's size
pub record SizeWithin (follows : Bool) (whole size : ℕ) : Type 0 where
  pub most : size ≤ whole
  pub same : follows ≡ false → size ≡ whole

-- what n packets of a class cost together, from its start on
unfoldable pub lengths_cost : List ℕ → ℕ → ℕ → ℕ → ℕ
lengths_cost lengths class start zero = 0
lengths_cost lengths class start (suc n) = lengths_cost lengths class start n + cost_of (slice_index lengths (slot class ((start + n) % 32)))

-- what is seen of a packet at a place: its length less 1, which wraps where it is 0; and 0 where none waits, for the turn of its place is
-- past those held
unfoldable pub seen_of : ℕ → ℕ → ℕ → ℕ
seen_of length turn held = cond (nat_lt turn held) (cond (length == 0) 65_535 (length - 1)) 0

-- of place k of a class
abbrev pub seen_at : List ℕ → ℕ → ℕ → ℕ → ℕ → ℕ
seen_at lengths class start held k = seen_of (slice_index lengths (slot class k)) ((k + 32 - start) % 32) held

-- the most of the numbers x at the places before n, and at those 8, 16 and 24 on
unfoldable pub most_to : (ℕ → ℕ) → ℕ → ℕ
most_to x zero = 0
most_to x (suc n) = max (most_to x n) (max (max (x n) (x (n + 8))) (max (x (n + 16)) (x (n + 24))))

-- what is above 59 of those at place k and at the three places 8, 16 and 24 on: it wraps
abbrev pub four_over : (ℕ → ℕ) → ℕ → ℕ
four_over x k = ((x k - 59) + (x (k + 8) - 59) + (x (k + 16) - 59) + (x (k + 24) - 59)) % 65_536

-- the waiting packets of a leaf are within its range, and cost together what its total says
pub record QueueRight (v : View) (lengths : List ℕ) (longest : ℕ) : Type 0 where
  pub low : (j : ℕ) → j < v.held → 1 ≤ slice_index lengths (slot v.class ((v.start + j) % 32))
  pub high : (j : ℕ) → j < v.held → slice_index lengths (slot v.class ((v.start + j) % 32)) ≤ longest
  pub bytes : v.bytes ≡ lengths_cost lengths v.class v.start v.held

-- a class is right in its numbers and its packets
pub record ClassRight (v : View) (lengths : List ℕ) (longest : ℕ) : Type 0 where
  pub view : ViewRight v
  pub queue : v.leaf ≡ true → QueueRight v lengths longest

-- every class of a link is, and all B and R add to the size
pub record ClassesRight (l : Link) : Type 0 where
  pub at : (i : ℕ) → i < 64 → ClassRight (view_of l i) l.lengths (longest_of l.tree i)
  pub adds : total l.round.accounts ≡ l.round.size.0

-- the link that lent numbers make up
abbrev pub link_in : List ℕ → Bytes → ℕ → ℕ → List ℕ → List ℕ → List ℕ → List ℕ → List ℕ → List ℕ → List ℕ → List ℕ → List ℕ → ℕ → Link
link_in shape size active place balance residual start held lengths tags marks packets bytes charged =
    link_of (tree_in shape) lengths tags marks start held (record { packets = packets; bytes = bytes; charged = charged })
    (round_of size.0 active place (zip_accounts balance residual))

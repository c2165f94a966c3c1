-- What a link record means, and the links that are made from nothing (R96 to R100). Demand 2.
use Rattle.std.specs.Prelude.{◌≡◌, ℕ, List, [], length, get_or, replicate, slice_index_or, slice_set}
use Rattle.tree.specs.declared.Tree.{Tree}
use Rattle.tree.specs.Below.{leaves_sum}
use Rattle.tree.specs.Class.{no_tree}
use Rattle.tree.specs.Size.{round_size}
use Rattle.state.specs.declared.Account.{Account}
use Rattle.state.specs.declared.Link.{Link}
use Rattle.state.specs.declared.Round.{Round}
use Rattle.state.specs.declared.Totals.{Totals}
use Rattle.state.specs.declared.Waiting.{Waiting}
use Rattle.state.specs.Account.{account, no_account}
use Rattle.state.specs.Mark.{charged_more}
use Rattle.state.specs.Queue.{queue_of, bytes_in}
use Rattle.tree.specs.Sum.{table}

-- the tree, each class's queue (R96), its totals by class number and the running total (R276, R308), and where it stands in its round: the
-- round size in force, the set of active classes, the place and each class's account (R96)
pub record State : Type 0 where
  pub tree : Tree
  pub queues : List (List Waiting)
  pub totals : Totals
  pub round : Round

-- What a place without a packet holds, and where in its 32 places a queue starts, are no part of a state's meaning (R97, R98).
abbrev pub meaning : Link → State
meaning l = record { tree = l.tree; queues = table (queue_of l) 64; totals = l.totals; round = l.round }

-- the packets of class i in order
abbrev pub queue_at : State → ℕ → List Waiting
queue_at s i = slice_index_or s.queues i []

-- the packets, or the charged bytes, that wait at the leaves at or below class i: a sum over these of what a queue counts for (R276)
abbrev pub waiting_below : (List Waiting → ℕ) → Tree → List (List Waiting) → ℕ → ℕ
waiting_below count t queues i = leaves_sum t (λ j. count (slice_index_or queues j [])) i

-- that of each class number (R276)
unfoldable pub counts_of : (List Waiting → ℕ) → Tree → List (List Waiting) → List ℕ
counts_of count t queues = table (waiting_below count t queues) 64

-- the totals of these queues, with a running total (R276, R308)
abbrev pub totals_of : Tree → List (List Waiting) → ℕ → Totals
totals_of t queues charged = record { packets = counts_of length t queues; bytes = counts_of bytes_in t queues; charged = charged }

-- the totals of class number i are right: they are what waits at the leaves at or below it (R276)
pub record TotalsRight (s : State) (i : ℕ) : Type 0 where
  pub packets : get_or s.totals.packets i 0 ≡ waiting_below length s.tree s.queues i
  pub bytes : get_or s.totals.bytes i 0 ≡ waiting_below bytes_in s.tree s.queues i

-- the state with other queues, and so with other totals, or with another queue for class i alone
abbrev pub with_queues : State → List (List Waiting) → State
with_queues s queues = record {
  tree = s.tree;
  queues = queues;
  totals = totals_of s.tree queues s.totals.charged;
  round = s.round;
}

abbrev pub with_queue : State → ℕ → List Waiting → State
with_queue s i q = with_queues s (slice_set s.queues i q)

-- the state when a charge has joined the running total (R310)
abbrev pub with_charge : State → ℕ → State
with_charge s charge = record { tree = s.tree; queues = s.queues; totals = charged_more s.totals charge; round = s.round }

-- with this size in force, these active classes, this place and these accounts
abbrev pub round_of : ℕ → ℕ → ℕ → List Account → Round
round_of size active place accounts = record { size = record { 0 = size }; active = active; place = place; accounts = accounts }

-- the state in a round
abbrev pub in_round : State → Round → State
in_round s round = record { tree = s.tree; queues = s.queues; totals = s.totals; round = round }

-- the link that its fields make up
abbrev pub link_of : Tree → List ℕ → List ℕ → List ℕ → List ℕ → List ℕ → Totals → Round → Link
link_of tree lengths tags marks start held totals round = record {
  tree = tree;
  lengths = lengths;
  tags = tags;
  marks = marks;
  start = start;
  held = held;
  totals = totals;
  round = round;
}

-- the link in a round, as a state is
abbrev pub link_in_round : Link → Round → Link
link_in_round l round = link_of l.tree l.lengths l.tags l.marks l.start l.held l.totals round

-- nothing waits, and nothing was charged (R99, R100, R308)
abbrev pub no_totals : Totals
no_totals = record { packets = replicate 64 0; bytes = replicate 64 0; charged = 0 }

-- a fresh link, whose size is the whole tree's: root balance Q, every other B and R zero, queues empty, nothing active, place 64 (R99)
abbrev pub fresh_link : Tree → Link
fresh_link t = record {
  tree = t;
  lengths = replicate 2_048 0;
  tags = replicate 2_048 0;
  marks = replicate 2_048 0;
  start = replicate 64 0;
  held = replicate 64 0;
  totals = no_totals;
  round = round_of (round_size t) 0 64 (slice_set (replicate 64 no_account) 0 (account (round_size t) 0));
}

-- the link without classes, all its numbers 0 (R100)
abbrev pub no_link : Link
no_link = record {
  tree = no_tree;
  lengths = replicate 2_048 0;
  tags = replicate 2_048 0;
  marks = replicate 2_048 0;
  start = replicate 64 0;
  held = replicate 64 0;
  totals = no_totals;
  round = round_of 0 0 0 (replicate 64 no_account);
}

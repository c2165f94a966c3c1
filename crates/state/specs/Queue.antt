-- Each class's queue, first in first out, in its 32 of the 2,048 waiting places (R93 to R95). Demands 2 and 3.
use Rattle.std.specs.Prelude.{◌≡◌, ℕ, ◌+◌, ◌-◌, ◌*◌, ◌%◌, true, false, List, [], ◌∷◌, length, slice_index, slice_set}
use Rattle.units.specs.Cost.{cost_of}
use Rattle.tree.specs.Sum.{table}
use Rattle.state.specs.declared.Link.{Link}
use Rattle.state.specs.declared.Totals.{Totals}
use Rattle.state.specs.declared.Waiting.{Waiting}
use Rattle.state.specs.Mark.{charged_more}
use Rattle.state.specs.WayUp.{recounted}

-- a packet whose numbers are 0
abbrev pub no_packet : Waiting
no_packet = record { length = 0; tag = 0; mark = 0 }

-- where in its 32 places the queue of class i starts, and how many packets it holds
abbrev pub start_of : Link → ℕ → ℕ
start_of l i = slice_index l.start i

abbrev pub held_of : Link → ℕ → ℕ
held_of l i = slice_index l.held i

-- the waiting place at a position of class i: class times 32 plus position (R94)
abbrev pub slot : ℕ → ℕ → ℕ
slot i position = i * 32 + position

-- the waiting place of the packet with j packets before it: positions go round the 32 (R94, R95)
abbrev pub slot_of : Link → ℕ → ℕ → ℕ
slot_of l i j = slot i ((start_of l i + j) % 32)

-- what that place holds (R94, R309)
abbrev pub packet_at : Link → ℕ → ℕ → Waiting
packet_at l i j = record {
  length = slice_index l.lengths (slot_of l i j);
  tag = slice_index l.tags (slot_of l i j);
  mark = slice_index l.marks (slot_of l i j);
}

-- the packets of class i in order (R93, R97)
unfoldable pub queue_of : Link → ℕ → List Waiting
queue_of l i = table (packet_at l i) (held_of l i)

-- the bytes of the packets of a queue, in charges (R16, R201)
unfoldable pub bytes_in : List Waiting → ℕ
bytes_in [] = 0
bytes_in (p ∷ ps) = cost_of p.length + bytes_in ps

-- the link with these queues
abbrev pub queued : Link → List ℕ → List ℕ → List ℕ → List ℕ → List ℕ → Link
queued l start held lengths tags marks = record {
  tree = l.tree;
  lengths = lengths;
  tags = tags;
  marks = marks;
  start = start;
  held = held;
  totals = l.totals;
  round = l.round;
}

-- the link with these totals
abbrev pub with_totals : Link → Totals → Link
with_totals l totals = record {
  tree = l.tree;
  lengths = l.lengths;
  tags = l.tags;
  marks = l.marks;
  start = l.start;
  held = l.held;
  totals = totals;
  round = l.round;
}

-- a packet laid last in class i's places, and not counted yet (R93)
abbrev pub laid_last : Link → ℕ → Waiting → Link
laid_last l i p =
    queued l l.start (slice_set l.held i (held_of l i + 1))
    (slice_set l.lengths (slot_of l i (held_of l i)) p.length) (slice_set l.tags (slot_of l i (held_of l i)) p.tag)
    (slice_set l.marks (slot_of l i (held_of l i)) p.mark)

-- the first packet lifted from class i's places, and still counted (R93, R95)
abbrev pub lifted_first : Link → ℕ → Link
lifted_first l i =
    queued l (slice_set l.start i ((start_of l i + 1) % 32)) (slice_set l.held i (held_of l i - 1)) l.lengths l.tags l.marks

-- a packet waits last in class i's queue, and is counted on the way up (R93, R277)
abbrev pub put_last : Link → ℕ → Waiting → Link
put_last l i p = with_totals (laid_last l i p) (recounted false l.tree i (cost_of p.length) l.totals)

-- the first packet leaves class i's queue, is counted there no more, and its charge joins the running total (R93, R95, R277, R310)
abbrev pub taken_first : Link → ℕ → Link
taken_first l i =
    let charge = cost_of (packet_at l i 0).length in
    with_totals (lifted_first l i) (charged_more (recounted true l.tree i charge l.totals) charge)

-- the lists of a link have the lengths of its arrays (R94)
pub record Shaped (l : Link) : Type 0 where
  pub accounts : length l.round.accounts ≡ 64
  pub start : length l.start ≡ 64
  pub held : length l.held ≡ 64
  pub lengths : length l.lengths ≡ 2_048
  pub tags : length l.tags ≡ 2_048
  pub marks : length l.marks ≡ 2_048
  pub packets : length l.totals.packets ≡ 64
  pub bytes : length l.totals.bytes ≡ 64

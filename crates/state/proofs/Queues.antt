-- What a packet put last, or the first one taken, does to each class's queue. Demand 2.
use Rattle.std.proofs.Common.{◌≡◌, ℕ, suc, ◌+◌, ◌-◌, ◌%◌, ◌<◌, ◌≤◌, true, false, List, [], ◌∷◌, ◌++◌, length, get_or, sym, ap, ◌∙◌, ap₂, add-one, arith, length-set, get_or-set_other, get_or-set_same}
use Rattle.tree.proofs.Changes.{changed_length}
use Rattle.units.specs.Cost.{cost_of}
use Rattle.state.specs.declared.Link.{Link}
use Rattle.state.specs.declared.Round.{Round}
use Rattle.state.specs.declared.Waiting.{Waiting}
use Rattle.state.specs.State.{link_in_round}
use Rattle.state.specs.WayUp.{changed}
use Rattle.state.specs.Queue.{no_packet, start_of, held_of, slot, slot_of, packet_at, queue_of, put_last, taken_first, Shaped}
use Rattle.tree.specs.Sum.{table}
use Rattle.tree.proofs.Tables.{table_none, table_last, table_length, table_at, table_same, table_first}

-- what two waiting places hold is the same where their lengths, their tags and their marks are
same_packet_lem : (p q : Waiting) → p.length ≡ q.length → p.tag ≡ q.tag → p.mark ≡ q.mark → p ≡ q
same_packet_lem p q e f g = λ i. record { length = e i; tag = f i; mark = g i }

-- a queue is as long as the number of packets held, and its packets are those at their places
pub queue_length : (l : Link) (i : ℕ) → length (queue_of l i) ≡ held_of l i
unfolding queue_of
queue_length l i = table_length (packet_at l i) (held_of l i)

pub queue_at_lem : (l : Link) (i j : ℕ) → j < held_of l i → get_or (queue_of l i) j no_packet ≡ packet_at l i j
unfolding queue_of
queue_at_lem l i j h = table_at (packet_at l i) no_packet (held_of l i) j h

pub queue_none : (l : Link) (i : ℕ) → held_of l i ≡ 0 → queue_of l i ≡ []
unfolding queue_of
queue_none l i e = rw e (table_none (packet_at l i))

-- the first packet lies at the queue's start
pub packet_first : (l : Link) (i : ℕ) → start_of l i < 32
    → packet_at l i 0
    ≡ record {
      length = get_or l.lengths (slot i (start_of l i)) 0;
      tag = get_or l.tags (slot i (start_of l i)) 0;
      mark = get_or l.marks (slot i (start_of l i)) 0;
    }
packet_first l i h =
    let e : slot_of l i 0 ≡ slot i (start_of l i) = omega arith in
    rw e

-- a packet put last in class i's queue
module _ (l : Link) (i : ℕ) (p : Waiting) where
  -- every other waiting place holds what it held
  put_elsewhere : (k j : ℕ) → (slot_of l k j ≡ slot_of l i (held_of l i) → ⊥) → packet_at (put_last l i p) k j ≡ packet_at l k j
  put_elsewhere k j ne =
      same_packet_lem (packet_at (put_last l i p) k j) (packet_at l k j)
      (get_or-set_other l.lengths (slot_of l i (held_of l i)) (slot_of l k j) p.length 0 ne)
      (get_or-set_other l.tags (slot_of l i (held_of l i)) (slot_of l k j) p.tag 0 ne)
      (get_or-set_other l.marks (slot_of l i (held_of l i)) (slot_of l k j) p.mark 0 ne)

  put_there : Shaped l → i < 64 → packet_at (put_last l i p) i (held_of l i) ≡ p
  put_there s h =
      same_packet_lem (packet_at (put_last l i p) i (held_of l i)) p
      (get_or-set_same l.lengths (slot_of l i (held_of l i)) p.length 0 (omega (arith, s.lengths)))
      (get_or-set_same l.tags (slot_of l i (held_of l i)) p.tag 0 (omega (arith, s.tags)))
      (get_or-set_same l.marks (slot_of l i (held_of l i)) p.mark 0 (omega (arith, s.marks)))

  -- class i's queue has the packet last
  pub queue_put_same : Shaped l → i < 64 → held_of l i < 32 → queue_of (put_last l i p) i ≡ queue_of l i ++ (p ∷ [])
  unfolding queue_of
  queue_put_same s h room =
      let one_more_lem : held_of (put_last l i p) i ≡ suc (held_of l i) =
      get_or-set_same l.held i (held_of l i + 1) 0 (omega (arith, s.held)) ∙ add-one (held_of l i)
      in
      ap (table (packet_at (put_last l i p) i)) one_more_lem
      ∙ table_last (packet_at (put_last l i p) i) (held_of l i)
      ∙ ap₂ (λ (q : List Waiting) (x : Waiting). q ++ (x ∷ []))
      (table_same (packet_at (put_last l i p) i) (packet_at l i) (held_of l i) (λ j m. put_elsewhere i j (λ e. omega arith)))
      (put_there s h)

  -- every other queue is what it was
  pub queue_put_other : (k : ℕ) → (k ≡ i → ⊥) → queue_of (put_last l i p) k ≡ queue_of l k
  unfolding queue_of
  queue_put_other k ne =
      rw (get_or-set_other l.held i k (held_of l i + 1) 0 ne)
      (table_same (packet_at (put_last l i p) k) (packet_at l k) (held_of l k) (λ j m. put_elsewhere k j (λ e. ne (omega arith))))

-- the first packet taken from class i's queue
module _ (l : Link) (i : ℕ) where
  taken_next : Shaped l → i < 64 → (j : ℕ) → packet_at (taken_first l i) i j ≡ packet_at l i (suc j)
  taken_next s h j =
      let e : slot_of (taken_first l i) i j ≡ slot_of l i (suc j) =
      rw (get_or-set_same l.start i ((start_of l i + 1) % 32) 0 (omega (arith, s.start))) (omega arith)
      in
      same_packet_lem (packet_at (taken_first l i) i j) (packet_at l i (suc j))
      (ap (λ (k : ℕ). get_or l.lengths k 0) e)
      (ap (λ (k : ℕ). get_or l.tags k 0) e)
      (ap (λ (k : ℕ). get_or l.marks k 0) e)

  -- class i's queue was its first packet and the queue that is left
  pub queue_take_same : Shaped l → i < 64 → 1 ≤ held_of l i → queue_of l i ≡ packet_at l i 0 ∷ queue_of (taken_first l i) i
  unfolding queue_of
  queue_take_same s h some =
      let one_less : held_of (taken_first l i) i ≡ held_of l i - 1 = get_or-set_same l.held i (held_of l i - 1) 0 (omega (arith, s.held)) in
      let one_more_lem : held_of l i ≡ suc (held_of (taken_first l i) i) = omega arith in
      ap (table (packet_at l i)) one_more_lem
      ∙ table_first (packet_at l i) (held_of (taken_first l i) i)
      ∙ ap (λ (q : List Waiting). packet_at l i 0 ∷ q)
      (sym (table_same (packet_at (taken_first l i) i) (λ j. packet_at l i (suc j)) (held_of (taken_first l i) i) (λ j m. taken_next s h j)))

  -- every other queue is what it was
  pub queue_take_other : (k : ℕ) → (k ≡ i → ⊥) → queue_of (taken_first l i) k ≡ queue_of l k
  unfolding queue_of
  queue_take_other k ne =
      let e : start_of (taken_first l i) k ≡ start_of l k = get_or-set_other l.start i k ((start_of l i + 1) % 32) 0 ne in
      let at : (j : ℕ) → packet_at (taken_first l i) k j ≡ packet_at l k j = λ j. rw e in
      rw (get_or-set_other l.held i k (held_of l i - 1) 0 ne)
      (table_same (packet_at (taken_first l i) k) (packet_at l k) (held_of l k) (λ j m. at j))

-- the lists keep their lengths
pub shaped_put : (l : Link) (i : ℕ) (p : Waiting) → Shaped l → Shaped (put_last l i p)
shaped_put l i p s = record {
  accounts = s.accounts;
  start = s.start;
  held = length-set l.held i (held_of l i + 1) ∙ s.held;
  lengths = length-set l.lengths (slot_of l i (held_of l i)) p.length ∙ s.lengths;
  tags = length-set l.tags (slot_of l i (held_of l i)) p.tag ∙ s.tags;
  marks = length-set l.marks (slot_of l i (held_of l i)) p.mark ∙ s.marks;
  packets = changed_length l.tree (changed false 1) i l.totals.packets ∙ s.packets;
  bytes = changed_length l.tree (changed false (cost_of p.length)) i l.totals.bytes ∙ s.bytes;
}

pub shaped_take : (l : Link) (i : ℕ) → Shaped l → Shaped (taken_first l i)
shaped_take l i s = record {
  accounts = s.accounts;
  start = length-set l.start i ((start_of l i + 1) % 32) ∙ s.start;
  held = length-set l.held i (held_of l i - 1) ∙ s.held;
  lengths = s.lengths;
  tags = s.tags;
  marks = s.marks;
  packets = changed_length l.tree (changed true 1) i l.totals.packets ∙ s.packets;
  bytes = changed_length l.tree (changed true (cost_of (packet_at l i 0).length)) i l.totals.bytes ∙ s.bytes;
}

pub shaped_in : (l : Link) (round : Round) → Shaped l → length round.accounts ≡ 64 → Shaped (link_in_round l round)
shaped_in l round s many = record {
  accounts = many;
  start = s.start;
  held = s.held;
  lengths = s.lengths;
  tags = s.tags;
  marks = s.marks;
  packets = s.packets;
  bytes = s.bytes;
}

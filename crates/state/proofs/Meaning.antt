-- What a link record means, what the steps on a queue do to that, and that the meaning leaves out no more than R97 says. Demand 2.
use Rattle.std.proofs.Common.{◌≡◌, ℕ, ◌+◌, ◌-◌, ◌/◌, ◌%◌, ◌<◌, ◌≤◌, true, false, List, [], ◌∷◌, ◌++◌, length, get_or, drop, set, replicate, sym, refl, ap, ◌∙◌, arith, length-append, length-drop, length-set, ext_get_or}
use native.Mathlib.Decide.{dec_lt}
use lib.ListN.{length-replicate}
use lib.ListN.{get_or-replicate, get_or-eq_default}
use Rattle.tree.specs.declared.Tree.{Tree}
use Rattle.tree.specs.Class.{is_leaf}
use Rattle.tree.specs.Rules.{PlanRules}
use Rattle.tree.specs.Size.{round_size}
use Rattle.tree.specs.Sum.{table}
use Rattle.tree.proofs.Rules.{leaf_number}
use Rattle.units.specs.Cost.{cost_of}
use Rattle.state.specs.declared.Link.{Link}
use Rattle.state.specs.declared.Waiting.{Waiting}
use Rattle.state.specs.Account.{account, no_account}
use Rattle.state.specs.Queue.{no_packet, start_of, held_of, slot_of, packet_at, queue_of, bytes_in, put_last, taken_first, Shaped}
use Rattle.state.specs.State.{State, meaning, queue_at, totals_of, counts_of, TotalsRight}
use Rattle.state.specs.State.{with_queue, with_charge, link_in_round, fresh_link, no_link}
use Rattle.state.specs.Mark.{wrapped}
use Rattle.state.specs.WayUp.{changed}
use Rattle.tree.proofs.Tables.{table_length, table_at, table_same, table_set}
use Rattle.state.proofs.Bytes.{bytes_more, bytes_rest}
use Rattle.state.proofs.Counting.{totals_change}
use Rattle.state.proofs.Queues.{queue_length, queue_at_lem, queue_none, queue_put_same, queue_put_other, queue_take_same}
use Rattle.state.proofs.Queues.{queue_take_other}

-- the queues of a meaning are the link's, and past the last class number there is none
pub meaning_queue : (l : Link) (i : ℕ) → i < 64 → queue_at (meaning l) i ≡ queue_of l i
meaning_queue l i h = table_at (queue_of l) [] 64 i h

-- how many packets wait in class i
pub meaning_held : (l : Link) (i : ℕ) → i < 64 → length (queue_at (meaning l) i) ≡ held_of l i
meaning_held l i h = ap length (meaning_queue l i h) ∙ queue_length l i

-- a packet put last changes the queue of its class alone
put_queues : (l : Link) (i : ℕ) (p : Waiting) → Shaped l → i < 64 → held_of l i < 32
    → table (queue_of (put_last l i p)) 64 ≡ set (meaning l).queues i (queue_at (meaning l) i ++ (p ∷ []))
put_queues l i p s h room =
    table_set (queue_of l) (queue_of (put_last l i p)) 64 i (queue_at (meaning l) i ++ (p ∷ [])) h
    (queue_put_same l i p s h room ∙ ap (λ (q : List Waiting). q ++ (p ∷ [])) (sym (meaning_queue l i h)))
    (queue_put_other l i p)

-- and so does the first packet taken
take_queues : (l : Link) (i : ℕ) → Shaped l → i < 64 → 1 ≤ held_of l i
    → table (queue_of (taken_first l i)) 64 ≡ set (meaning l).queues i (drop 1 (queue_at (meaning l) i))
take_queues l i s h some =
    table_set (queue_of l) (queue_of (taken_first l i)) 64 i (drop 1 (queue_at (meaning l) i)) h
    (sym (ap (drop 1) (meaning_queue l i h ∙ queue_take_same l i s h some)))
    (queue_take_other l i)

-- a leaf of a plan's tree in a link whose totals are right: there a packet is counted
pub record Counts (l : Link) (i : ℕ) : Type 0 where
  pub rules : PlanRules l.tree
  pub leaf : is_leaf l.tree i ≡ true
  pub totals : (k : ℕ) → k < 64 → TotalsRight (meaning l) k

-- the state of a link with these queues and this running total
abbrev waiting_in : Link → List (List Waiting) → ℕ → State
waiting_in l queues charged = record { tree = l.tree; queues = queues; totals = totals_of l.tree queues charged; round = l.round }

-- the link's queues and totals changed, that is what it means
with_queues_lem : (l l' : Link) (queues : List (List Waiting)) (charged : ℕ)
    → link_in_round l' l.round ≡ l'
    → l'.tree ≡ l.tree → table (queue_of l') 64 ≡ queues → l'.totals ≡ totals_of l.tree queues charged
    → meaning l' ≡ waiting_in l queues charged
with_queues_lem l l' queues charged same tree waits totals = λ k. record {
  tree = tree k;
  queues = waits k;
  totals = totals k;
  round = (sym same k).round;
}

-- a packet put last in a leaf changes the meaning of that leaf's queue, and the totals with it
pub meaning_put : (l : Link) (i : ℕ) (p : Waiting) → Shaped l → Counts l i → held_of l i < 32
    → meaning (put_last l i p) ≡ with_queue (meaning l) i (queue_at (meaning l) i ++ (p ∷ []))
unfolding counts_of
meaning_put l i p s c room =
    let h = leaf_number l.tree i c.rules c.leaf in
    let q = queue_at (meaning l) i in
    let many : length (meaning l).queues ≡ 64 = table_length (queue_of l) 64 in
    let packets =
    totals_change length l.tree (meaning l).queues i (q ++ (p ∷ [])) c.rules c.leaf many (changed false 1) l.totals.packets
    s.packets (λ k v. (c.totals k v).packets) (λ a b e. omega (arith, e, length-append q (p ∷ [])))
    in
    let bytes =
    totals_change bytes_in l.tree (meaning l).queues i (q ++ (p ∷ [])) c.rules c.leaf many
    (changed false (cost_of p.length)) l.totals.bytes
    s.bytes (λ k v. (c.totals k v).bytes) (λ a b e. omega (arith, e, bytes_more q p))
    in
    with_queues_lem l (put_last l i p) _ l.totals.charged refl refl (put_queues l i p s h room)
    (λ k. record { packets = packets k; bytes = bytes k; charged = l.totals.charged })

-- the packet that leaves is the first of its queue
pub meaning_first : (l : Link) (i : ℕ) → i < 64 → 1 ≤ held_of l i → get_or (queue_at (meaning l) i) 0 no_packet ≡ packet_at l i 0
meaning_first l i h some = ap (λ (q : List Waiting). get_or q 0 no_packet) (meaning_queue l i h) ∙ queue_at_lem l i 0 some

-- the first packet taken from a leaf changes the meaning of that leaf's queue, and the totals with it; its charge joins the running total
pub meaning_take : (l : Link) (i : ℕ) → Shaped l → Counts l i → 1 ≤ held_of l i
    → meaning (taken_first l i)
    ≡ with_queue (with_charge (meaning l) (cost_of (get_or (queue_at (meaning l) i) 0 no_packet).length)) i (drop 1 (queue_at (meaning l) i))
unfolding counts_of
meaning_take l i s c some =
    let h = leaf_number l.tree i c.rules c.leaf in
    let q = queue_at (meaning l) i in
    let many : length (meaning l).queues ≡ 64 = table_length (queue_of l) 64 in
    let held : 1 ≤ length q = omega (arith, meaning_held l i h) in
    let first = ap (λ (x : Waiting). cost_of x.length) (meaning_first l i h some) in
    let packets =
    totals_change length l.tree (meaning l).queues i (drop 1 q) c.rules c.leaf many (changed true 1) l.totals.packets
    s.packets (λ k v. (c.totals k v).packets) (λ a b e. omega (arith, e, length-drop 1 q, held))
    in
    let bytes =
    totals_change bytes_in l.tree (meaning l).queues i (drop 1 q) c.rules c.leaf many
    (changed true (cost_of (packet_at l i 0).length)) l.totals.bytes
    s.bytes (λ k v. (c.totals k v).bytes) (λ a b e. omega (arith, e, first, bytes_rest q held))
    in
    with_queues_lem l (taken_first l i) _ (wrapped (l.totals.charged + cost_of (get_or q 0 no_packet).length)) refl refl
    (take_queues l i s h some)
    (λ k. record { packets = packets k; bytes = bytes k; charged = wrapped (l.totals.charged + sym first k) })

-- a fresh link, and the link without classes, hold no packet
none_held : (i : ℕ) → held_of no_link i ≡ 0
none_held i = go (dec_lt i 64)
  where
    go : Dec (i < 64) → held_of no_link i ≡ 0
    go (yes h) = get_or-replicate {A = ℕ} 64 i 0 0 h
    go (no h) = get_or-eq_default no_link.held 0 {n = i} (omega arith)

pub fresh_queues : (t : Tree) (i : ℕ) → queue_of (fresh_link t) i ≡ []
fresh_queues t i = queue_none (fresh_link t) i (none_held i)

pub shaped_fresh : (t : Tree) → Shaped (fresh_link t)
shaped_fresh t = record {
  accounts = length-set (replicate 64 no_account) 0 (account (round_size t) 0) ∙ length-replicate 64 no_account;
  start = length-replicate {A = ℕ} 64 0;
  held = length-replicate {A = ℕ} 64 0;
  lengths = length-replicate {A = ℕ} 2_048 0;
  tags = length-replicate {A = ℕ} 2_048 0;
  marks = length-replicate {A = ℕ} 2_048 0;
  packets = length-replicate {A = ℕ} 64 0;
  bytes = length-replicate {A = ℕ} 64 0;
}

-- two links of one meaning
module _ (l l' : Link) (same : meaning l ≡ meaning l') where
  pub same_queue : (i : ℕ) → i < 64 → queue_of l i ≡ queue_of l' i
  same_queue i h =
      sym (meaning_queue l i h) ∙ ap (λ (m : State). queue_at m i) same ∙ meaning_queue l' i h

  pub same_held : (i : ℕ) → i < 64 → held_of l i ≡ held_of l' i
  same_held i h = sym (queue_length l i) ∙ ap length (same_queue i h) ∙ queue_length l' i

  same_waiting : (i j : ℕ) → i < 64 → j < held_of l i → packet_at l i j ≡ packet_at l' i j
  same_waiting i j h m =
      sym (queue_at_lem l i j m)
      ∙ ap (λ (q : List Waiting). get_or q j no_packet) (same_queue i h)
      ∙ queue_at_lem l' i j (omega (arith, same_held i h))

  -- with the same starts and the same free places
  module _ (s : Shaped l) (s' : Shaped l') (starts : (i : ℕ) → i < 64 → start_of l i ≡ start_of l' i)
      (free : (i j : ℕ) → i < 64 → held_of l i ≤ j → j < 32 → packet_at l i j ≡ packet_at l' i j) where
    same_packets : (i j : ℕ) → i < 64 → j < 32 → packet_at l i j ≡ packet_at l' i j
    same_packets i j h u = go (dec_lt j (held_of l i))
      where
        go : Dec (j < held_of l i) → packet_at l i j ≡ packet_at l' i j
        go (yes m) = same_waiting i j h m
        go (no m) = free i j h (omega arith) u

    -- each of the 2,048 places is some packet's, or free
    same_place : (p : ℕ) → p < 2_048
        → (get_or l.lengths p 0 ≡ get_or l'.lengths p 0) × (get_or l.tags p 0 ≡ get_or l'.tags p 0)
        × (get_or l.marks p 0 ≡ get_or l'.marks p 0)
    same_place p h =
        let i : ℕ = p / 32 in
        let j : ℕ = (p % 32 + 32 - start_of l i % 32) % 32 in
        let here : slot_of l i j ≡ p = omega arith in
        let here' : slot_of l' i j ≡ p = omega (arith, starts i (omega arith)) in
        let e : packet_at l i j ≡ packet_at l' i j = same_packets i j (omega arith) (omega arith) in (
          ap (λ (k : ℕ). get_or l.lengths k 0) (sym here) ∙ ap (λ (x : Waiting). x.length) e
              ∙ ap (λ (k : ℕ). get_or l'.lengths k 0) here',
          ap (λ (k : ℕ). get_or l.tags k 0) (sym here) ∙ ap (λ (x : Waiting). x.tag) e ∙ ap (λ (k : ℕ). get_or l'.tags k 0) here',
          ap (λ (k : ℕ). get_or l.marks k 0) (sym here) ∙ ap (λ (x : Waiting). x.mark) e ∙ ap (λ (k : ℕ). get_or l'.marks k 0) here',
        )

    same_lengths : l.lengths ≡ l'.lengths
    same_lengths =
        ext_get_or 0 l.lengths l'.lengths (s.lengths ∙ sym s'.lengths) (λ p h. (same_place p (omega (arith, s.lengths))).0)

    same_tags : l.tags ≡ l'.tags
    same_tags =
        ext_get_or 0 l.tags l'.tags (s.tags ∙ sym s'.tags) (λ p h. (same_place p (omega (arith, s.tags))).1)

    same_marks : l.marks ≡ l'.marks
    same_marks =
        ext_get_or 0 l.marks l'.marks (s.marks ∙ sym s'.marks) (λ p h. (same_place p (omega (arith, s.marks))).2)

    same_start : l.start ≡ l'.start
    same_start = ext_get_or 0 l.start l'.start (s.start ∙ sym s'.start) (λ i h. starts i (omega (arith, s.start)))

    same_helds : l.held ≡ l'.held
    same_helds = ext_get_or 0 l.held l'.held (s.held ∙ sym s'.held) (λ i h. same_held i (omega (arith, s.held)))

    same_link : l ≡ l'
    same_link = λ i. record {
      tree = (same i).tree;
      lengths = same_lengths i;
      tags = same_tags i;
      marks = same_marks i;
      start = same_start i;
      held = same_helds i;
      totals = (same i).totals;
      round = (same i).round;
    }

-- the meaning leaves out the starts and the free places, and nothing else
pub nothing_forgotten : (l l' : Link) → Shaped l → Shaped l' → meaning l ≡ meaning l'
    → ((i : ℕ) → i < 64 → start_of l i ≡ start_of l' i)
    → ((i j : ℕ) → i < 64 → held_of l i ≤ j → j < 32 → packet_at l i j ≡ packet_at l' i j)
    → l ≡ l'
nothing_forgotten l l' s s' same starts free = same_link l l' same s s' starts free

-- two states are equal when all else agrees and each class's packets agree in order (R98)
pub same_meaning : (l l' : Link) → l.tree ≡ l'.tree → ((i : ℕ) → i < 64 → queue_of l i ≡ queue_of l' i) → l.totals ≡ l'.totals
    → l.round ≡ l'.round → meaning l ≡ meaning l'
same_meaning l l' tree queues totals round = λ i. record {
  tree = tree i;
  queues = table_same (queue_of l) (queue_of l') 64 queues i;
  totals = totals i;
  round = round i;
}

-- Totals that are right class by class, told by the numbers after each, are the sums over the leaves; and they are small. Demands 1 and 2.
use Rattle.std.proofs.Common.{◌≡◌, ℕ, zero, suc, ◌+◌, ◌*◌, ◌^◌, ◌<◌, ◌≤◌, min, Bool, true, false, cond, List, length, sym, refl, ap, ◌∙◌, zero-le, arith, eq-eqb, ne_eqb}
use native.Mathlib.Decide.{dec_le}
use Rattle.tree.specs.declared.Tree.{Tree}
use Rattle.tree.specs.Class.{parent_of, longest_of, is_leaf, is_child, of_child, children_sum}
use Rattle.tree.specs.Below.{leaves_sum, AddsBelow}
use Rattle.tree.specs.Rules.{PlanRules}
use Rattle.tree.specs.Size.{longest_cost}
use Rattle.tree.specs.Sum.{table}
use Rattle.tree.proofs.Classes.{class_in_lem, class_past}
use Rattle.tree.proofs.Rules.{few_classes, leaf_number, parent_lower, longest_cost_bound}
use Rattle.tree.proofs.Sums.{sum_zero, sum_longer, sum_rest}
use Rattle.tree.proofs.Leaves.{sums_local, local_from, past_sum, leaves_same, sum_most, leaf_least, leaf_known}
use Rattle.units.specs.Cost.{cost_of}
use Rattle.state.specs.declared.Link.{Link}
use Rattle.state.specs.Queue.{start_of, held_of, packet_at, queue_of, bytes_in}
use Rattle.state.specs.State.{meaning, queue_at, TotalsRight}
use Rattle.state.proofs.Bytes.{bytes_more}
use Rattle.state.proofs.Meaning.{meaning_queue, meaning_held}
use Rattle.sound.specs.Steps.{added_after, packets_of, bytes_of, view_of, lengths_cost, ClassRight}

-- a class adds to its parent, and to no other; and where it has nothing, nothing
pub child_adds : (t : Tree) (x : ℕ → ℕ) (i q : ℕ) → parent_of t i ≡ q → of_child t x q i ≡ x i
unfolding of_child is_child
child_adds t x i q e = rw (eq-eqb (parent_of t i) q e) refl

pub child_adds_no : (t : Tree) (x : ℕ → ℕ) (i p : ℕ) → (parent_of t i ≡ p → ⊥) → of_child t x p i ≡ 0
unfolding of_child is_child
child_adds_no t x i p ne = rw (ne_eqb (parent_of t i) p ne) refl

child_most : (t : Tree) (x : ℕ → ℕ) (m i p : ℕ) → x i ≤ m → of_child t x p i ≤ m
unfolding of_child
child_most t x m i p h = go (is_child t p i)
  where
    go : (b : Bool) → cond b (x i) 0 ≤ m
    go true = h
    go false = zero-le

-- ---- what the numbers after a class add to it

module _ (t : Tree) (rules : PlanRules t) (x : ℕ → ℕ) where
  -- nothing comes to a number past the last class
  past_none : (p : ℕ) → t.count < p → added_after t x p p ≡ 0
  past_none p h =
      let none = sum_zero (of_child t x p) 63 (λ k l u. child_adds_no t x k p (λ e. no_parent k l (omega arith) e (dec_le k t.count))) in
      omega (arith, none)
    where
      no_parent : (k : ℕ) → 1 ≤ k → k < 64 → parent_of t k ≡ p → Dec (k ≤ t.count) → ⊥
      no_parent k l u e (yes m) = omega (arith, parent_lower t k rules (class_in_lem t k l m), e)
      no_parent k l u e (no m) = omega (arith, ((rules.unset.at k u).past (class_past t k (omega arith))).parent, e)

  -- and to any other from its children, where the numbers past the last class have nothing
  after_children : (p : ℕ) → p ≤ t.count → ((k : ℕ) → t.count < k → k < 64 → x k ≡ 0) → added_after t x p p ≡ children_sum t x p
  unfolding children_sum
  after_children p u none =
      let few = few_classes t rules in
      let before =
      sum_zero (of_child t x p) p
      (λ k l v. child_adds_no t x k p (λ e. omega (arith, parent_lower t k rules (class_in_lem t k l (omega (arith, u, v))), e)))
      in
      let past =
      sum_longer (of_child t x p) t.count 63 few
      (λ k l v. omega (arith, child_most t x 0 k p (omega (arith, none k l (omega arith)))))
      in
      omega (arith, before, past)

-- x is right at class i: a leaf's is its own, any other number's what those after it add to it
pub record AddsAfter (t : Tree) (f x : ℕ → ℕ) (i : ℕ) : Type 0 where
  pub leaf : is_leaf t i ≡ true → x i ≡ f i
  pub other : is_leaf t i ≡ false → x i ≡ added_after t x i i

module _ (t : Tree) (rules : PlanRules t) (f x : ℕ → ℕ) where
  past_zero : (i : ℕ) → t.count < i → i < 64 → AddsAfter t f x i → x i ≡ 0
  past_zero i l u a = a.other ((rules.unset.at i u).past (class_past t i l)).leaf ∙ past_none t rules x i l

  -- where it is from class m on, these are the sums over the leaves; and the other way
  pub after_sums : (m : ℕ) → ((k : ℕ) → m ≤ k → k < 64 → AddsAfter t f x k) → (i : ℕ) → m ≤ i → i < 64 → x i ≡ leaves_sum t f i
  after_sums m right i l u = go (dec_le i t.count)
    where
      local : (k : ℕ) → m ≤ k → k ≤ t.count → AddsBelow t f x k
      local k a b =
          let r = right k a (omega (arith, b, few_classes t rules)) in
          record {
            leaf = r.leaf;
            other = λ e. r.other e ∙ after_children t rules x k b (λ j c d. past_zero j c d (right j (omega arith) d));
          }

      go : Dec (i ≤ t.count) → x i ≡ leaves_sum t f i
      go (yes b) = local_from t rules f x m local i l b
      go (no b) = past_zero i (omega arith) u (right i l u) ∙ sym (past_sum t rules f i (omega arith))

  pub sums_after : ((i : ℕ) → i < 64 → x i ≡ leaves_sum t f i) → (i : ℕ) → i < 64 → AddsAfter t f x i
  sums_after same i u = record { leaf = (sums_local t rules f x same i u).leaf; other = λ e. go e (dec_le i t.count) }
    where
      go : is_leaf t i ≡ false → Dec (i ≤ t.count) → x i ≡ added_after t x i i
      go e (yes b) =
          (sums_local t rules f x same i u).other e
          ∙ sym (after_children t rules x i b (λ k l v. same k v ∙ past_sum t rules f k l))
      go e (no b) = same i u ∙ past_sum t rules f i (omega arith) ∙ sym (past_none t rules x i (omega arith))

-- ---- they are small where the leaves' are, and so is what they add to

-- what 32 packets of the longest length cost, and 63 times as much
abbrev pub most_own : ℕ
most_own = 295_680

abbrev pub most_total : ℕ
most_total = 18_627_840

module _ (t : Tree) (rules : PlanRules t) (f x : ℕ → ℕ) (m : ℕ) (right : (k : ℕ) → m ≤ k → k < 64 → AddsAfter t f x k)
    (small : (k : ℕ) → m ≤ k → is_leaf t k ≡ true → f k ≤ most_own) where
  pub total_small : (k : ℕ) → m ≤ k → k < 64 → x k ≤ most_total
  total_small k l u =
      let sum = after_sums t rules (λ j. min (x j) most_own) x m cut k l u in
      let most = sum_most t rules (λ j. min (x j) most_own) most_own k (λ j e. omega arith) in
      omega (arith, sum, most, few_classes t rules)
    where
      cut : (k : ℕ) → m ≤ k → k < 64 → AddsAfter t (λ j. min (x j) most_own) x k
      cut k l u = record { leaf = λ e. omega (arith, (right k l u).leaf e, small k l e); other = (right k l u).other }

  pub added_small : (p i : ℕ) → m ≤ i + 1 → i ≤ 63 → added_after t x p i ≤ 63 * most_total
  added_small p i l u =
      omega (
        arith,
        sum_rest (of_child t x p) most_total 63 i u (λ k a b. child_most t x most_total k p (total_small k (omega arith) (omega arith))),
      )

-- ---- of a link

-- what the packets of a queue cost, place by place
cost_table : (l : Link) (i n : ℕ) → bytes_in (table (packet_at l i) n) ≡ lengths_cost l.lengths i (start_of l i) n
unfolding table bytes_in lengths_cost
cost_table l i zero = refl
cost_table l i (suc n) =
    bytes_more (table (packet_at l i) n) (packet_at l i n)
    ∙ ap (λ (x : ℕ). x + cost_of (packet_at l i n).length) (cost_table l i n)

-- nothing yet
pub cost_none : (lengths : List ℕ) (class start : ℕ) → lengths_cost lengths class start 0 ≡ 0
unfolding lengths_cost
cost_none lengths class start = refl

-- a shorter packet costs no more
shorter : (a b : ℕ) → a ≤ b → cost_of a ≤ cost_of b
unfolding cost_of
shorter a b h = omega (arith, h)

module _ (l : Link) (rules : PlanRules l.tree) where
  abbrev cost_of_queue : ℕ → ℕ
  cost_of_queue i = lengths_cost l.lengths i (start_of l i) (held_of l i)

  queue_cost : (i : ℕ) → i < 64 → cost_of_queue i ≡ bytes_in (queue_at (meaning l) i)
  unfolding queue_of
  queue_cost i u = sym (ap bytes_in (meaning_queue l i u) ∙ cost_table l i (held_of l i))

  -- class i is right, in its numbers and its packets
  abbrev Right : ℕ → Type 0
  Right i = ClassRight (view_of l i) l.lengths (longest_of l.tree i)

  packets_after : (i : ℕ) → Right i → AddsAfter l.tree (held_of l) (packets_of l) i
  unfolding view_of
  packets_after i r = record { leaf = λ e. (r.view.leaf e).packets; other = λ e. (r.view.other e).packets }

  bytes_after_lem : (i : ℕ) → Right i → AddsAfter l.tree cost_of_queue (bytes_of l) i
  unfolding view_of
  bytes_after_lem i r = record { leaf = λ e. (r.queue e).bytes; other = λ e. (r.view.other e).bytes }

  -- classes that are right have the totals, and the other way
  pub right_totals : ((i : ℕ) → i < 64 → Right i) → (i : ℕ) → i < 64 → TotalsRight (meaning l) i
  right_totals right i u = record {
    packets =
        after_sums l.tree rules (held_of l) (packets_of l) 0 (λ k a v. packets_after k (right k v)) i (omega arith) u
        ∙ leaves_same l.tree rules (held_of l) (λ j. length (queue_at (meaning l) j)) i (λ j v. sym (meaning_held l j v));
    bytes =
        after_sums l.tree rules cost_of_queue (bytes_of l) 0 (λ k a v. bytes_after_lem k (right k v)) i (omega arith) u
        ∙ leaves_same l.tree rules cost_of_queue (λ j. bytes_in (queue_at (meaning l) j)) i queue_cost;
  }

  pub totals_packets : ((i : ℕ) → i < 64 → TotalsRight (meaning l) i) → (i : ℕ) → i < 64
      → AddsAfter l.tree (held_of l) (packets_of l) i
  totals_packets right =
      sums_after l.tree rules (held_of l) (packets_of l)
      (λ i u. (right i u).packets
      ∙ leaves_same l.tree rules (λ j. length (queue_at (meaning l) j)) (held_of l) i (meaning_held l))

  pub totals_bytes : ((i : ℕ) → i < 64 → TotalsRight (meaning l) i) → (i : ℕ) → i < 64 → AddsAfter l.tree cost_of_queue (bytes_of l) i
  totals_bytes right =
      sums_after l.tree rules cost_of_queue (bytes_of l)
      (λ i u. (right i u).bytes
      ∙ leaves_same l.tree rules (λ j. bytes_in (queue_at (meaning l) j)) cost_of_queue i (λ j v. sym (queue_cost j v)))

  -- the packets of a leaf that is right cost little
  own_small : (i : ℕ) → is_leaf l.tree i ≡ true → Right i → cost_of_queue i ≤ most_own
  unfolding view_of lengths_cost longest_cost
  own_small i e r = omega (arith, first (held_of l i) (omega arith), (r.view.leaf e).few)
    where
      most : cost_of (longest_of l.tree i) ≤ 9_240
      most =
          rw e at (longest_cost_bound l.tree i
          (rules.each.longests i (class_in_lem l.tree i (leaf_least l.tree rules i e) (leaf_known l.tree rules i e))))

      first : (n : ℕ) → n ≤ held_of l i → lengths_cost l.lengths i (start_of l i) n ≤ n * 9_240
      first zero h = zero-le
      first (suc n) h = omega (arith, first n (omega arith), shorter _ _ ((r.queue e).high n (omega arith)), most)

  -- so what class i adds to another fits, where the classes from it on are right
  module _ (i : ℕ) (u : i < 64) (right : (k : ℕ) → i ≤ k → k < 64 → Right k) (p : ℕ) where
    pub packets_fit : added_after l.tree (packets_of l) p i + packets_of l i < 2 ^ 64
    unfolding view_of
    packets_fit =
        let after : (k : ℕ) → i ≤ k → k < 64 → AddsAfter l.tree (held_of l) (packets_of l) k = λ k a v. packets_after k (right k a v) in
        let small : (k : ℕ) → i ≤ k → is_leaf l.tree k ≡ true → held_of l k ≤ most_own =
        λ k a e. omega (arith, ((right k a (leaf_number l.tree k rules e)).view.leaf e).few)
        in
        omega (
          arith,
          total_small l.tree rules (held_of l) (packets_of l) i after small i (omega arith) u,
          added_small l.tree rules (held_of l) (packets_of l) i after small p i (omega arith) (omega (arith, u)),
        )

    pub bytes_fit : added_after l.tree (bytes_of l) p i + bytes_of l i < 2 ^ 64
    bytes_fit =
        let after : (k : ℕ) → i ≤ k → k < 64 → AddsAfter l.tree cost_of_queue (bytes_of l) k = λ k a v. bytes_after_lem k (right k a v) in
        let small : (k : ℕ) → i ≤ k → is_leaf l.tree k ≡ true → cost_of_queue k ≤ most_own =
        λ k a e. own_small k e (right k a (leaf_number l.tree k rules e))
        in
        omega (
          arith,
          total_small l.tree rules cost_of_queue (bytes_of l) i after small i (omega arith) u,
          added_small l.tree rules cost_of_queue (bytes_of l) i after small p i (omega arith) (omega (arith, u)),
        )

-- The waiting packets of a leaf, read in the order of its 32 places instead of the queue's. Demand 1.
use Rattle.std.proofs.Common.{◌≡◌, ℕ, zero, suc, ◌+◌, ◌-◌, ◌*◌, ◌%◌, ◌^◌, ◌<◌, ◌≤◌, max, List, get_or, sym, refl, ap, ◌∙◌, subst, ap₂, arith, le-ltb, lt-ltb, eq-eqb, ne_eqb}
use native.Mathlib.Decide.{dec_lt, ℕ_discrete}
use Rattle.units.specs.Cost.{cost_of}
use Rattle.tree.specs.Sum.{sum_to}
use Rattle.tree.proofs.Sums.{sum_same, sum_longer, sum_add}
use Rattle.state.specs.Queue.{slot}
use Rattle.sound.specs.declared.View.{View}
use Rattle.sound.specs.Steps.{lengths_cost, seen_of, seen_at, most_to, four_over, QueueRight}

-- ---- a sum over the 32 places is the same from any of them on, round the 32

module _ (g : ℕ → ℕ) where
  -- n places from place s on
  unfoldable round : ℕ → ℕ → ℕ
  round s n = sum_to (λ j. g ((s + (j - 1)) % 32)) n

  -- from the next one on: the first leaves, and one comes last
  round_on : (s n : ℕ) → round (s + 1) n + g (s % 32) ≡ round s n + g ((s + n) % 32)
  unfolding round sum_to
  round_on s zero = let e : s + 0 ≡ s = omega arith in rw e refl
  round_on s (suc n) =
      let last : g ((s + 1 + (suc n - 1)) % 32) ≡ g ((s + suc n) % 32) = ap (λ (k : ℕ). g (k % 32)) (omega arith) in
      let same : g ((s + (suc n - 1)) % 32) ≡ g ((s + n) % 32) = ap (λ (k : ℕ). g (k % 32)) (omega arith) in
      omega (arith, last, same, round_on s n)

  -- of 32 it is the same that comes
  round_any : (s : ℕ) → round s 32 ≡ round 0 32
  round_any zero = refl
  round_any (suc s) =
      let e : suc s ≡ s + 1 = omega arith in
      let comes : g ((s + 32) % 32) ≡ g (s % 32) = ap g (omega arith) in
      rw e (omega (arith, comes, round_on s 32, round_any s))

  in_order : (s : ℕ) → sum_to (λ k. g (k - 1)) 32 ≡ round s 32
  unfolding round
  in_order s =
      sum_same (λ k. g (k - 1)) (λ j. g ((0 + (j - 1)) % 32)) 32 (λ k l u. ap g (omega arith))
      ∙ sym (round_any s)

-- ---- four places at a time

-- a sum of n and of m more
sum_parts : (f : ℕ → ℕ) (n m : ℕ) → sum_to f (n + m) ≡ sum_to f n + sum_to (λ k. f (n + k)) m
unfolding sum_to
sum_parts f n zero = let e : n + 0 ≡ n = omega arith in rw e (omega arith)
sum_parts f n (suc m) =
    let e : n + suc m ≡ suc (n + m) = omega arith in
    let last : f (suc (n + m)) ≡ f (n + suc m) = ap f (omega arith) in
    rw e (omega (arith, last, sum_parts f n m))

-- four numbers together, wrapped after each sum or once; and where they are small they do not wrap
pub four_wraps : (a b c d : ℕ) → ((a + b) % 2 ^ 16 + (c + d) % 2 ^ 16) % 2 ^ 16 ≡ (a + b + c + d) % 65_536
four_wraps a b c d = omega arith

four_small : (a b c d : ℕ) → a ≤ 9_216 → b ≤ 9_216 → c ≤ 9_216 → d ≤ 9_216 → (a + b + c + d) % 65_536 ≡ (a + b) + (c + d)
four_small a b c d p q r s = omega (arith, p, q, r, s)

-- one turn of the loop
pub most_none : (x : ℕ → ℕ) → most_to x 0 ≡ 0
unfolding most_to
most_none x = refl

pub most_more : (x : ℕ → ℕ) (k : ℕ)
    → most_to x (k + 1) ≡ max (most_to x k) (max (max (x k) (x (k + 8))) (max (x (k + 16)) (x (k + 24))))
unfolding most_to
most_more x k = let e : k + 1 ≡ suc k = omega arith in rw e refl

pub over_more : (x : ℕ → ℕ) (k : ℕ) → sum_to (λ j. four_over x (j - 1)) (k + 1) ≡ sum_to (λ j. four_over x (j - 1)) k + four_over x k
unfolding sum_to
over_more x k =
    let e : k + 1 ≡ suc k = omega arith in
    let i : suc k - 1 ≡ k = omega arith in
    rw e (ap (λ (j : ℕ). sum_to (λ j. four_over x (j - 1)) k + four_over x j) i)

module _ (x : ℕ → ℕ) (m : ℕ) where
  -- what is seen of place j and of those 8, 16 and 24 on is below m
  record Fours (j : ℕ) : Type 0 where
    pub a : x j < m
    pub b : x (j + 8) < m
    pub c : x (j + 16) < m
    pub d : x (j + 24) < m

  most_fours : (n : ℕ) → most_to x n < m → (j : ℕ) → j < n → Fours j
  unfolding most_to
  most_fours zero h j u = absurd (omega (arith, u))
  most_fours (suc n) h j u = go (ℕ_discrete n j) (most_fours n (omega (arith, h)))
    where
      go : Dec (n ≡ j) → ((j : ℕ) → j < n → Fours j) → Fours j
      go (yes e) ih = subst Fours e (record { a = omega (arith, h); b = omega (arith, h); c = omega (arith, h); d = omega (arith, h) })
      go (no e) ih = ih j (omega (arith, u, e))

  fours_most : 1 ≤ m → (n : ℕ) → ((j : ℕ) → j < n → Fours j) → most_to x n < m
  unfolding most_to
  fours_most l zero h = omega (arith, l)
  fours_most l (suc n) h =
      let f = h n (omega arith) in
      omega (arith, f.a, f.b, f.c, f.d, fours_most l n (λ j u. h j (omega (arith, u))))

  -- of each of the 32 places, and the other way
  pub most_each : most_to x 8 < m → (k : ℕ) → k < 32 → x k < m
  most_each h k u = go (dec_lt k 8) (dec_lt k 16) (dec_lt k 24)
    where
      all : (j : ℕ) → j < 8 → Fours j
      all = most_fours 8 h

      go : Dec (k < 8) → Dec (k < 16) → Dec (k < 24) → x k < m
      go (yes p) q r = (all k p).a
      go (no p) (yes q) r = subst (λ (i : ℕ). x i < m) (omega arith) (all (k - 8) (omega arith)).b
      go (no p) (no q) (yes r) = subst (λ (i : ℕ). x i < m) (omega arith) (all (k - 16) (omega arith)).c
      go (no p) (no q) (no r) = subst (λ (i : ℕ). x i < m) (omega arith) (all (k - 24) (omega arith)).d

  pub each_most : 1 ≤ m → ((k : ℕ) → k < 32 → x k < m) → most_to x 8 < m
  each_most l h =
      fours_most l 8
      (λ j u. record {
        a = h j (omega (arith, u));
        b = h (j + 8) (omega (arith, u));
        c = h (j + 16) (omega (arith, u));
        d = h (j + 24) (omega (arith, u));
      })

  -- what is above 59 at the place before
  abbrev above_at : ℕ → ℕ
  above_at k = x (k - 1) - 59

  -- small numbers do not wrap
  no_wrap : m ≤ 9_216 → ((k : ℕ) → k < 32 → x k < m) → (k : ℕ) → 1 ≤ k → k ≤ 8
      → four_over x (k - 1) ≡ (above_at k + above_at (8 + k)) + (above_at (16 + k) + above_at (24 + k))
  no_wrap few h k l u =
      let b : x (8 + k - 1) - 59 ≡ x (k - 1 + 8) - 59 = ap (λ (i : ℕ). x i - 59) (omega arith) in
      let c : x (16 + k - 1) - 59 ≡ x (k - 1 + 16) - 59 = ap (λ (i : ℕ). x i - 59) (omega arith) in
      let d : x (24 + k - 1) - 59 ≡ x (k - 1 + 24) - 59 = ap (λ (i : ℕ). x i - 59) (omega arith) in
      four_small (x (k - 1) - 59) (x (k - 1 + 8) - 59) (x (k - 1 + 16) - 59) (x (k - 1 + 24) - 59) (small (k - 1) (omega arith))
      (small (k - 1 + 8) (omega arith)) (small (k - 1 + 16) (omega arith)) (small (k - 1 + 24) (omega arith))
      ∙ rw (b, c, d) refl
    where
      small : (i : ℕ) → i < 32 → x i - 59 ≤ 9_216
      small i v = omega (arith, h i v, few)

  -- and all fours together are all places
  pub fours_sum : m ≤ 9_216 → ((k : ℕ) → k < 32 → x k < m) → sum_to (λ k. four_over x (k - 1)) 8 ≡ sum_to (λ k. x (k - 1) - 59) 32
  fours_sum few h =
      sum_same (λ k. four_over x (k - 1)) (λ k. (above_at k + above_at (8 + k)) + (above_at (16 + k) + above_at (24 + k))) 8 (no_wrap few h)
      ∙ sum_add (λ k. above_at k + above_at (8 + k)) (λ k. above_at (16 + k) + above_at (24 + k)) 8
      ∙ ap₂ ◌+◌ (sum_add above_at (λ k. above_at (8 + k)) 8) (sum_add (λ k. above_at (16 + k)) (λ k. above_at (24 + k)) 8)
      ∙ omega (arith, sum_parts above_at 8 8, sum_parts above_at 16 8, sum_parts above_at 24 8)

-- ---- the queue, place by place

-- what is seen of a packet is below the longest where the packet is within its range, or none waits
module _ (length turn held : ℕ) where
  seen_low : (longest : ℕ) → longest ≤ 9_216 → seen_of length turn held < longest → turn < held → 1 ≤ length
  unfolding seen_of
  seen_low longest few h t = go (ℕ_discrete length 0)
    where
      go : Dec (length ≡ 0) → 1 ≤ length
      go (yes e) = absurd (omega (arith, few, rw (lt-ltb turn held t, eq-eqb length 0 e) at h))
      go (no e) = omega (arith, e)

  waits_seen : turn < held → 1 ≤ length → seen_of length turn held ≡ length - 1
  unfolding seen_of
  waits_seen t l = let n : length ≡ 0 → ⊥ = λ e. omega (arith, l, e) in rw (lt-ltb turn held t, ne_eqb length 0 n) refl

  none_seen : held ≤ turn → seen_of length turn held ≡ 0
  unfolding seen_of
  none_seen t = rw (le-ltb turn held t) refl

module _ (v : View) (lengths : List ℕ) where
  -- the length at place k, its turn, and what is seen of it
  abbrev length_at : ℕ → ℕ
  length_at k = get_or lengths (slot v.class k) 0

  abbrev turn_of : ℕ → ℕ
  turn_of k = (k + 32 - v.start) % 32

  abbrev pub seen_place : ℕ → ℕ
  seen_place = seen_at lengths v.class v.start v.held

  -- what is above 59 of it
  abbrev over_at : ℕ → ℕ
  over_at k = seen_place k - 59

  -- what n packets are longer than 60, from the start on
  unfoldable lengths_over : ℕ → ℕ
  lengths_over n = sum_to (λ j. length_at ((v.start + (j - 1)) % 32) - 60) n

  -- what they cost: 84 bytes each, and that
  over_cost : (n : ℕ) → lengths_cost lengths v.class v.start n ≡ n * 84 + lengths_over n
  unfolding lengths_cost lengths_over sum_to cost_of
  over_cost zero = refl
  over_cost (suc n) =
      let e : suc n - 1 ≡ n = omega arith in
      rw e (omega (arith, over_cost n))

  module _ (low : v.start ≤ 31) (few : v.held ≤ 32) where
    turn_of_lem : (j : ℕ) → j < 32 → turn_of ((v.start + j) % 32) ≡ j
    turn_of_lem j u = omega (arith, u, low)

    none_waits : (j : ℕ) → v.held ≤ j → j < 32 → over_at ((v.start + j) % 32) ≡ 0
    none_waits j l u =
        let k = (v.start + j) % 32 in
        omega (arith, none_seen (length_at k) (turn_of k) v.held (omega (arith, turn_of_lem j u, l)))

    module _ (q : (j : ℕ) → j < v.held → 1 ≤ length_at ((v.start + j) % 32)) where
      waits : (j : ℕ) → j < v.held → over_at ((v.start + j) % 32) ≡ length_at ((v.start + j) % 32) - 60
      waits j u =
          let k = (v.start + j) % 32 in
          let turn = turn_of_lem j (omega (arith, u, few)) in
          omega (arith, q j u, waits_seen (length_at k) (turn_of k) v.held (omega (arith, turn, u)) (q j u))

      in_turn : (n : ℕ) → n ≤ v.held → round over_at v.start n ≡ lengths_over n
      unfolding round sum_to lengths_over
      in_turn zero u = refl
      in_turn (suc n) u =
          let e : suc n - 1 ≡ n = omega arith in
          rw e (ap₂ ◌+◌ (in_turn n (omega arith)) (waits n (omega arith)))

      -- what those held cost, place by place
      pub places_cost : lengths_cost lengths v.class v.start v.held ≡ sum_to (λ k. over_at (k - 1)) 32 + 84 * v.held
      unfolding round
      places_cost =
          let order =
          in_order over_at v.start
          ∙ sum_longer (λ j. over_at ((v.start + (j - 1)) % 32)) v.held 32 few (λ j l u. none_waits (j - 1) (omega arith) (omega arith))
          ∙ in_turn v.held (omega arith)
          in
          omega (arith, order, over_cost v.held)

    -- every place below the longest: the packets are within their range
    module _ (longest : ℕ) (most : longest ≤ 9_216) where
      pub each_low : ((k : ℕ) → k < 32 → seen_place k < longest) → (j : ℕ) → j < v.held → 1 ≤ length_at ((v.start + j) % 32)
      each_low h j u =
          let k = (v.start + j) % 32 in
          seen_low (length_at k) (turn_of k) v.held longest most (h k (omega arith)) (omega (arith, turn_of_lem j (omega (arith, u, few)), u))

      pub each_queue : ((k : ℕ) → k < 32 → seen_place k < longest) → v.bytes ≡ sum_to (λ k. over_at (k - 1)) 32 + 84 * v.held
          → QueueRight v lengths longest
      each_queue h cost = record {
        low = each_low h;
        high =
            λ j u.
            let k = (v.start + j) % 32 in
            let turn = turn_of_lem j (omega (arith, u, few)) in
            omega (arith, h k (omega arith), waits_seen (length_at k) (turn_of k) v.held (omega (arith, turn, u)) (each_low h j u));
        bytes = cost ∙ sym (places_cost (each_low h));
      }

      -- and the other way: a place whose turn is j is where packet j lies
      pub queue_each : 1 ≤ longest → QueueRight v lengths longest → (k : ℕ) → k < 32 → seen_place k < longest
      queue_each some q k u = go (dec_lt (turn_of k) v.held)
        where
          lies : (v.start + turn_of k) % 32 ≡ k
          lies = omega (arith, u, low)

          go : Dec (turn_of k < v.held) → seen_place k < longest
          go (yes t) =
              let l = subst (λ (i : ℕ). 1 ≤ length_at i) lies (q.low (turn_of k) t) in
              let g = subst (λ (i : ℕ). length_at i ≤ longest) lies (q.high (turn_of k) t) in
              omega (arith, waits_seen (length_at k) (turn_of k) v.held t l, l, g)
          go (no t) = omega (arith, none_seen (length_at k) (turn_of k) v.held (omega (arith, t)), some)

-- One visit after the other: from the start is from here.
use mathlib.Core.Bool.{Bool, true, false}
use mathlib.Core.List.{List}
use mathlib.Core.Path.{◌≡◌, refl, sym, ap, ap₂, subst, ◌∙◌}
use Prim.Native.Nat.{ℕ, zero, suc, ◌+◌, ◌-◌, ◌≤◌, ◌<◌}
use native.Mathlib.Decide.{dec_lt}
use native.Mathlib.Omega.{arith}
use lib.Dec.{leb, ltb}
use lib.ListN.{length, get_or}
use borrow.Author.Tests.{le-leb, lt-leb, lt-ltb, le-ltb, ltb-true}
use Rattle.sets.specs.Set.{has, Both, Next}
use Rattle.units.specs.Cost.{cost_of}
use Rattle.tree.specs.Class.{is_leaf}
use Rattle.state.specs.declared.Account.{Account}
use Rattle.state.specs.Account.{balance_of}
use Rattle.state.specs.Queue.{slot}
use Rattle.state.specs.State.{State, queue_at}
use Rattle.rules.specs.Sending.{first_of, first_from, active_leaf, covers}
use Rattle.rules.proofs.Searches.{first_range}
use Rattle.rules.proofs.Searching.{first_skip, first_hit, first_end}
use Rattle.state.proofs.Zips.{zip_at}
use Rattle.published.specs.Asking.{Published, ask}
use Rattle.published.specs.Visiting.{Visited, visits_from}
use Rattle.published.specs.Sound.{SoundPublished, WidePublished}
use Rattle.published.proofs.Asks.{Asked, ask_well}
use Rattle.published.proofs.Visits.{leaf_parts, leaf_last}
use Rattle.asking.specs.Lent.{Lent, Asker}
use Rattle.asking.specs.Coming.{Lying, Found, Reached}

-- one visit
visit_suc : (n : ℕ) (x : Published) (place : ℕ) → visits_from (suc n) x place
    ≡ elim (ltb (first_from (active_leaf x.state) (64 - place) place) 64) [
      | true ↦ elim (covers (ask x (first_from (active_leaf x.state) (64 - place) place)).state
          (first_from (active_leaf x.state) (64 - place) place)) [
            | true ↦ record {
              leaf = first_from (active_leaf x.state) (64 - place) place;
              after = ask x (first_from (active_leaf x.state) (64 - place) place);
            }
            | false ↦ visits_from n (ask x (first_from (active_leaf x.state) (64 - place) place))
                (first_from (active_leaf x.state) (64 - place) place + 1)
          ]
      | false ↦ record { leaf = 64; after = x }
    ]
unfolding visits_from
visit_suc n x place = refl

visit_at : (n : ℕ) (x : Published) (place i : ℕ) → first_from (active_leaf x.state) (64 - place) place ≡ i
    → visits_from (suc n) x place
    ≡ elim (ltb i 64) [
      | true ↦ elim (covers (ask x i).state i) [ true ↦ record { leaf = i; after = ask x i } | false ↦ visits_from n (ask x i) (i + 1) ]
      | false ↦ record { leaf = 64; after = x }
    ]
visit_at n x place i e =
    visit_suc n x place
    ∙ ap (λ (j : ℕ). elim (ltb j 64) as (λ (b : Bool). Visited) [
      | true ↦ elim (covers (ask x j).state j) as (λ (b : Bool). Visited) [
        | true ↦ record { leaf = j; after = ask x j }
        | false ↦ visits_from n (ask x j) (j + 1)
      ]
      | false ↦ record { leaf = 64; after = x }
    ]) e

-- enough visits are enough
visits_stable : (n m : ℕ) (x : Published) (place : ℕ) → place ≤ 64 → 64 - place < n → 64 - place < m
    → visits_from n x place ≡ visits_from m x place
visits_stable zero m x place h a b = absurd (omega arith)
visits_stable (suc n) zero x place h a b = absurd (omega arith)
visits_stable (suc n) (suc m) x place h a b =
    visit_suc n x place
    ∙ go (ltb i 64) refl (covers (ask x i).state i) (λ y u. visits_stable n m y (i + 1) (omega (arith, u)) (omega (arith, range.0, u))
    (omega (arith, range.0, u)))
    ∙ sym (visit_suc m x place)
  where
    i : ℕ
    i = first_from (active_leaf x.state) (64 - place) place

    range : (place ≤ i) × (i ≤ place + (64 - place))
    range = first_range (active_leaf x.state) (64 - place) place

    Two : Bool → Bool → Visited → Visited
    Two b c later = elim b [
      | true ↦ elim c [ true ↦ record { leaf = i; after = ask x i } | false ↦ later ]
      | false ↦ record { leaf = 64; after = x }
    ]

    go : (b : Bool) → ltb i 64 ≡ b → (c : Bool) → ((y : Published) → i < 64 → visits_from n y (i + 1) ≡ visits_from m y (i + 1))
        → Two b c (visits_from n (ask x i) (i + 1)) ≡ Two b c (visits_from m (ask x i) (i + 1))
    go false e c ih = refl
    go true e true ih = refl
    go true e false ih = ih (ask x i) (ltb-true i 64 e)

-- the next active leaf is the one that the search finds
module _ (y : Published) (leaves at i : ℕ) (start lengths : List ℕ) (l : Lying y leaves start lengths) (n : Next leaves at i) where
  leaf_is : (k : ℕ) → active_leaf y.state k ≡ has leaves k
  unfolding active_leaf is_leaf
  leaf_is k = sym (l.both.both k)

  next_first : first_from (active_leaf y.state) (64 - at) at ≡ i
  next_first =
      first_skip (active_leaf y.state) at i n.low n.high (λ k lo hi. leaf_is k ∙ n.between k lo hi)
      ∙ go (dec_lt i 64)
    where
      go : Dec (i < 64) → first_from (active_leaf y.state) (64 - i) i ≡ i
      go (yes u) = first_hit (active_leaf y.state) i u (leaf_is i ∙ n.found u)
      go (no u) =
          let e : i ≡ 64 = omega (arith, n.high) in
          first_end (active_leaf y.state) i e ∙ sym e

  pub found_leaf : i < 64 → active_leaf y.state i ≡ true
  found_leaf u = leaf_is i ∙ n.found u

  -- there is none
  visit_none : i ≡ 64 → visits_from 64 y at ≡ record { leaf = 64; after = y }
  visit_none e =
      visit_at 63 y at i next_first ∙ (rw (le-ltb i 64 (omega (arith, e))))

  -- it sends
  visit_hit : i < 64 → covers (ask y i).state i ≡ true → visits_from 64 y at ≡ record { leaf = i; after = ask y i }
  visit_hit u e = visit_at 63 y at i next_first ∙ (rw (lt-ltb i 64 u, e))

  -- the search goes on
  visit_pass : i < 64 → covers (ask y i).state i ≡ false → 1 ≤ at → visits_from 64 y at ≡ visits_from 64 (ask y i) (i + 1)
  visit_pass u e low =
      visit_at 63 y at i next_first
      ∙ (rw (lt-ltb i 64 u, e))
      ∙ visits_stable 63 64 (ask y i) (i + 1) (omega arith) (omega (arith, n.low)) (omega arith)

-- a class whose leaf is found can ask, and what it then has decides
module _ (y : Published) (i leaves : ℕ) (start lengths : List ℕ) (l : Lying y leaves start lengths) (sound : SoundPublished y)
    (wide : WidePublished y) (u : i < 64) (here : active_leaf y.state i ≡ true) where
  pub asker_of : Asker y i true
  asker_of =
      let on = (leaf_parts y.state i here).0 in
      record { sound = sound; wide = wide; last = leaf_last y i sound on; on = on; childless = λ z. (leaf_parts y.state i here).1 }

  done : Asked y (ask y i) i
  done = ask_well y i sound wide u asker_of.last asker_of.on

  pub sound_done : SoundPublished (ask y i)
  sound_done = done.sound

  pub wide_done : WidePublished (ask y i)
  wide_done = done.wide

  holds_one : 1 ≤ length (queue_at y.state i)
  holds_one =
      let p = leaf_parts y.state i here in
      (sound.state.waiting i u).waits p.1 p.0

  pub lying_done : Lying (ask y i) leaves start lengths
  lying_done = record {
    both = subst (λ (s : State). Both s.round.active s.tree.leaves leaves) (sym done.same) l.both;
    first = λ k v leaf holds.
        ap (λ (s : State). cost_of (first_of s k).length) done.same
        ∙ l.first k v (sym (ap (λ (s : State). is_leaf s.tree k) done.same) ∙ leaf)
        (subst (λ (s : State). 1 ≤ length (queue_at s k)) done.same holds);
  }

  module _ (active asked : ℕ) (shape balance residual quotas : List ℕ)
      (m : Lent (ask y i) active asked shape balance residual quotas) where
    covers_read : covers (ask y i).state i ≡ leb (cost_of (get_or lengths (slot i (get_or start i 0)) 0)) (get_or balance i 0)
    unfolding covers
    covers_read =
        ap₂ leb (ap (λ (s : State). cost_of (first_of s i).length) done.same ∙ l.first i u (leaf_parts y.state i here).1 holds_one)
        (ap (λ (xs : List Account). balance_of xs i) m.accounts
        ∙ ap (λ (a : Account). a.balance.0) (zip_at balance residual i (omega (
          arith,
          ap length
              m.accounts,
          done.wide.state.accounts,
        ))))

-- ---- the loop

module _ (x : Published) (place at leaves active asked : ℕ) (shape balance residual quotas start lengths : List ℕ)
    (r : Reached x place at leaves active asked shape balance residual quotas start lengths) (i : ℕ)
    (n : Next leaves at i) where
  -- no leaf is left: the round has closed
  pub reached_none : i ≡ 64 → Found x place 64 active asked shape balance residual quotas
  reached_none e =
      let is = r.same ∙ visit_none r.y leaves at i start lengths r.lying n e in
      record {
        leaf_is = sym (ap (λ (v : Visited). v.leaf) is);
        lent = subst (λ (v : Visited). Lent v.after active asked shape balance residual quotas) (sym is) r.lent;
      }

  module _ (u : i < 64) where
    pub reached_leaf : active_leaf r.y.state i ≡ true
    reached_leaf = found_leaf r.y leaves at i start lengths r.lying n u

    pub reached_asker : Asker r.y i true
    reached_asker = asker_of r.y i leaves start lengths r.lying r.sound r.wide u reached_leaf

    module _ (asked' : ℕ) (balance' residual' quotas' : List ℕ)
        (m : Lent (ask r.y i) active asked' shape balance' residual' quotas') (cost : ℕ)
        (is-cost : cost ≡ cost_of (get_or lengths (slot i (get_or start i 0)) 0)) where
      covers_is : covers (ask r.y i).state i ≡ leb cost (get_or balance' i 0)
      covers_is =
          covers_read r.y i leaves start lengths r.lying r.sound
          r.wide u reached_leaf active asked' shape balance'
          residual' quotas' m
          ∙ ap (λ (c : ℕ). leb c (get_or balance' i 0)) (sym is-cost)

      -- its balance covers its first packet
      pub reached_hit : cost ≤ get_or balance' i 0 → Found x place i active asked' shape balance' residual' quotas'
      reached_hit h =
          let is = r.same ∙ visit_hit r.y leaves at i start lengths r.lying n u (covers_is ∙ le-leb cost (get_or balance' i 0) h) in
          record {
            leaf_is = sym (ap (λ (v : Visited). v.leaf) is);
            lent = subst (λ (v : Visited). Lent v.after active asked' shape balance' residual' quotas') (sym is) m;
          }

      -- it does not, and the search goes on after it
      pub reached_pass : get_or balance' i 0 < cost → 1 ≤ at
          → Reached x place (i + 1) leaves active asked' shape balance' residual' quotas' start lengths
      reached_pass h low = record {
        y = ask r.y i;
        lent = m;
        lying = lying_done r.y i leaves start lengths r.lying r.sound r.wide u reached_leaf;
        sound = sound_done r.y i leaves start lengths r.lying r.sound r.wide u reached_leaf;
        wide = wide_done r.y i leaves start lengths r.lying r.sound r.wide u reached_leaf;
        same = r.same ∙ visit_pass r.y leaves at i start lengths r.lying n u (covers_is ∙ lt-leb cost (get_or balance' i 0) h) low;
      }

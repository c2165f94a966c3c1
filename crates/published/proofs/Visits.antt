-- Visits, each of which asks first, find the leaf that the first engine's visits find in the state that this one stands for.
use mathlib.Core.Bool.{Bool, true, false, ◌&&◌}
use mathlib.Core.Path.{◌≡◌, refl, sym, ap, subst, ◌∙◌}
use Prim.Native.Nat.{ℕ, zero, suc, ◌+◌, ◌-◌, ◌*◌, ◌≤◌, ◌<◌}
use native.Mathlib.Nat.{zero-mul}
use native.Mathlib.Decide.{dec_lt, ℕ_discrete}
use native.Mathlib.Omega.{arith}
use lib.Dec.{leb, ltb}
use borrow.Author.Tests.{ltb-true, ltb-false}
use Rattle.checks.proofs.Laws.{not_true_and_false}
use Rattle.sets.specs.Set.{has}
use Rattle.units.specs.Cost.{cost_of}
use Rattle.tree.specs.Class.{is_leaf}
use Rattle.tree.proofs.Classes.{both_true}
use Rattle.tree.specs.Rules.{PlanRules}
use Rattle.state.specs.declared.Account.{Account}
use Rattle.state.specs.Account.{no_account, account_of, handed_down}
use Rattle.state.specs.State.{State}
use Rattle.tree.proofs.Tables.{table_at}
use Rattle.rules.specs.Sending.{first_of, first_from, next_leaf, active_leaf, covers, visits}
use Rattle.rules.proofs.Searches.{first_range, first_least, first_holds}
use Rattle.rules.proofs.Sums.{sum_without}
use Rattle.rules.proofs.Taken.{leaf_childless}
use Rattle.rules.proofs.Visits.{visits_next}
use Rattle.published.specs.Asking.{Published, with_accounts, ask}
use Rattle.published.specs.Visiting.{Visited, visits_from, visited}
use Rattle.published.specs.Settled.{unasked, owed_sum, share, asked_account, settled_account, settled}
use Rattle.published.specs.Sound.{SoundPublished, WidePublished}
use Rattle.published.proofs.OneTake.{hand_none, asked_not, owed_within}
use Rattle.published.proofs.Asks.{Asked, ask_well}

-- the account of class i in the state that x stands for
pub settled_at : (x : Published) (i : ℕ) → i < 64 → account_of (settled x).round.accounts i ≡ settled_account x i
unfolding settled
settled_at x i u = table_at (settled_account x) no_account 64 i u

pub asked_own : (x : Published) (i : ℕ) → unasked x i ≡ false → asked_account x i ≡ account_of x.state.round.accounts i
unfolding asked_account
asked_own x i e = rw e

-- a class that owes nothing and has not yet to ask has its account
pub settled_own : (x : Published) (i : ℕ) → i < 64 → unasked x i ≡ false → owed_sum x i ≡ 0
    → account_of (settled x).round.accounts i ≡ account_of x.state.round.accounts i
unfolding settled_account
settled_own x i u e none =
    settled_at x i u
    ∙ ap (λ (a : Account). handed_down a (owed_sum x i * share x i)) (asked_own x i e)
    ∙ hand_none (account_of x.state.round.accounts i) (owed_sum x i * share x i)
    (ap (λ (m : ℕ). m * share x i) none ∙ zero-mul (share x i))

-- a leaf owes nothing
pub leaf_owes : (x : Published) (i : ℕ) → PlanRules x.state.tree → is_leaf x.state.tree i ≡ true → owed_sum x i ≡ 0
leaf_owes x i rules leaf =
    omega (
      arith,
      owed_within x i,
      sum_without x.state.tree x.state.round.active i (λ k is e on. leaf_childless x.state.tree i k rules leaf is e),
    )

-- so a leaf that has asked sends where it does in the state that x stands for
covers_same : (x : Published) (i : ℕ) → PlanRules x.state.tree → i < 64 → is_leaf x.state.tree i ≡ true → has x.asked i ≡ true
    → covers x.state i ≡ covers (settled x) i
unfolding covers settled
covers_same x i rules u leaf e =
    ap (λ (a : Account). leb (cost_of (first_of x.state i).length) a.balance.0)
    (sym (settled_own x i u (asked_not x i e) (leaf_owes x i rules leaf)))

-- what the visits from a place on find: the leaf w, and that every active leaf on the way has asked
pub record VisitsWell (x : Published) (place w : ℕ) (v : Visited) : Type 0 where
  pub leaf_is : v.leaf ≡ w
  pub same : v.after.state ≡ with_accounts x.state v.after.state.round.accounts
  pub stands : settled v.after ≡ settled x
  pub sound : SoundPublished v.after
  pub wide : WidePublished v.after
  pub keeps : (k : ℕ) → has x.asked k ≡ true → has v.after.asked k ≡ true
  pub passed : (k : ℕ) → k < 64 → place ≤ k → k < v.leaf → active_leaf x.state k ≡ true → has v.after.asked k ≡ true
  pub found : v.leaf < 64 → has v.after.asked v.leaf ≡ true

abbrev stop : Published → Visited
stop x = record { leaf = 64; after = x }

-- no active leaf is left
none_left : (x : Published) (place : ℕ) → SoundPublished x → WidePublished x
    → ((k : ℕ) → k < 64 → place ≤ k → active_leaf x.state k ≡ false) → VisitsWell x place 64 (stop x)
none_left x place sound wide none = record {
  leaf_is = refl;
  same = refl;
  stands = refl;
  sound = sound;
  wide = wide;
  keeps = λ k h. h;
  passed = λ k u l v a. absurd (not_true_and_false a (none k u l));
  found = λ u. absurd (omega arith);
}

-- an active leaf is a class number
pub leaf_parts : (s : State) (i : ℕ) → active_leaf s i ≡ true → (has s.round.active i ≡ true) × (is_leaf s.tree i ≡ true)
unfolding active_leaf
leaf_parts s i e = both_true (has s.round.active i) (is_leaf s.tree i) e

pub leaf_last : (x : Published) (i : ℕ) → SoundPublished x → has x.state.round.active i ≡ true → i ≤ x.state.tree.count
leaf_last x i sound on = go (dec_lt x.state.tree.count i)
  where
    go : Dec (x.state.tree.count < i) → i ≤ x.state.tree.count
    go (yes h) = absurd (not_true_and_false on (sound.state.past.past i h))
    go (no h) = omega arith

-- one visit of the first engine
eager_visit : (n : ℕ) (x : Published) (place : ℕ) → visits (suc n) (settled x) place
    ≡ elim (ltb (first_from (active_leaf x.state) (64 - place) place) 64) [
      | true ↦ elim (covers (settled x) (first_from (active_leaf x.state) (64 - place) place)) [
        | true ↦ first_from (active_leaf x.state) (64 - place) place
        | false ↦ visits n (settled x) (first_from (active_leaf x.state) (64 - place) place + 1)
      ]
      | false ↦ 64
    ]
unfolding visits active_leaf settled
eager_visit n x place = refl

-- one of the second
module _ (n : ℕ) (x : Published) (place i : ℕ) (sound : SoundPublished x) (wide : WidePublished x) (u : i < 64) (l : place ≤ i)
    (here : active_leaf x.state i ≡ true) (before : (k : ℕ) → place ≤ k → k < i → active_leaf x.state k ≡ false) where
  parts : (has x.state.round.active i ≡ true) × (is_leaf x.state.tree i ≡ true)
  parts = leaf_parts x.state i here

  asked : Asked x (ask x i) i
  asked = ask_well x i sound wide u (leaf_last x i sound parts.0) parts.0

  covers_is : covers (ask x i).state i ≡ covers (settled x) i
  covers_is =
      covers_same (ask x i) i asked.sound.state.fits.tree u
      (ap (λ (s : State). is_leaf s.tree i) asked.same ∙ parts.1) asked.own
      ∙ ap (λ (s : State). covers s i) asked.stands

  leaf_like : (k : ℕ) → active_leaf (ask x i).state k ≡ active_leaf x.state k
  unfolding active_leaf
  leaf_like k = ap (λ (s : State). has s.round.active k && is_leaf s.tree k) asked.same

  one_visit : (c : Bool) → VisitsWell (ask x i) (i + 1) (visits n (settled (ask x i)) (i + 1)) (visits_from n (ask x i) (i + 1))
      → VisitsWell x place (elim c [ true ↦ i | false ↦ visits n (settled x) (i + 1) ])
      (elim c [ true ↦ record { leaf = i; after = ask x i } | false ↦ visits_from n (ask x i) (i + 1) ])
  one_visit true later = record {
    leaf_is = refl;
    same = asked.same;
    stands = asked.stands;
    sound = asked.sound;
    wide = asked.wide;
    keeps = asked.keeps;
    passed = λ k v a b on. absurd (not_true_and_false on (before k a b));
    found = λ v. asked.own;
  }
  one_visit false later = record {
    leaf_is = later.leaf_is ∙ ap (λ (s : State). visits n s (i + 1)) asked.stands;
    same = later.same ∙ again;
    stands = later.stands ∙ asked.stands;
    sound = later.sound;
    wide = later.wide;
    keeps = λ k h. later.keeps k (asked.keeps k h);
    passed = λ k v a b on. past k v a b on (dec_lt k i) (ℕ_discrete k i);
    found = later.found;
  }
    where
      again : with_accounts (ask x i).state (visits_from n (ask x i) (i + 1)).after.state.round.accounts
          ≡ with_accounts x.state (visits_from n (ask x i) (i + 1)).after.state.round.accounts
      again = ap (λ (s : State). with_accounts s (visits_from n (ask x i) (i + 1)).after.state.round.accounts) asked.same

      past : (k : ℕ) → k < 64 → place ≤ k → k < (visits_from n (ask x i) (i + 1)).leaf → active_leaf x.state k ≡ true
          → Dec (k < i) → Dec (k ≡ i) → has (visits_from n (ask x i) (i + 1)).after.asked k ≡ true
      past k v a b on (yes h) d = absurd (not_true_and_false on (before k a h))
      past k v a b on (no h) (yes z) = later.keeps k (ap (has (ask x i).asked) z ∙ asked.own)
      past k v a b on (no h) (no z) = later.passed k v (omega arith) b (leaf_like k ∙ on)

visits_well : (n : ℕ) (x : Published) (place : ℕ) → SoundPublished x → WidePublished x → place ≤ 64 → 64 - place ≤ n
    → VisitsWell x place (visits n (settled x) place) (visits_from n x place)
unfolding visits visits_from
visits_well zero x place sound wide h few = none_left x place sound wide (λ k u l. absurd (omega arith))
visits_well (suc n) x place sound wide h few =
    subst (λ (w : ℕ). VisitsWell x place w (visits_from (suc n) x place)) (sym (eager_visit n x place))
    (go (ltb i 64) refl (λ y s w b. visits_well n y (i + 1) s w b (omega (arith, range.0))))
  where
    i : ℕ
    i = first_from (active_leaf x.state) (64 - place) place

    range : (place ≤ i) × (i ≤ place + (64 - place))
    range = first_range (active_leaf x.state) (64 - place) place

    go : (b : Bool) → ltb i 64 ≡ b
        → ((y : Published) → SoundPublished y → WidePublished y → i + 1 ≤ 64
        → VisitsWell y (i + 1) (visits n (settled y) (i + 1)) (visits_from n y (i + 1)))
        → VisitsWell x place
        (elim b [ true ↦ elim (covers (settled x) i) [ true ↦ i | false ↦ visits n (settled x) (i + 1) ] | false ↦ 64 ])
        (elim b [
          | true ↦ elim (covers (ask x i).state i) [ true ↦ record { leaf = i; after = ask x i } | false ↦ visits_from n (ask x i) (i + 1) ]
          | false ↦ record { leaf = 64; after = x }
        ])
    go false e later =
        none_left x place sound wide
        (λ k u l. first_least (active_leaf x.state) (64 - place) place k l (omega (arith, ltb-false i 64 e)))
    go true e later =
        let u = ltb-true i 64 e in
        let here = first_holds (active_leaf x.state) (64 - place) place (omega (arith, u)) in
        let before = first_least (active_leaf x.state) (64 - place) place in
        let a = asked n x place i sound wide u range.0 here before in
        subst
        (λ (d : Bool). VisitsWell x place (elim (covers (settled x) i) [ true ↦ i | false ↦ visits n (settled x) (i + 1) ])
        (elim d [ true ↦ record { leaf = i; after = ask x i } | false ↦ visits_from n (ask x i) (i + 1) ]))
        (sym (covers_is n x place i sound wide u range.0 here before))
        (one_visit n x place i sound wide u range.0 here before (covers (settled x) i)
        (later (ask x i) a.sound a.wide (omega (arith, u))))

visits_settled : (x : Published) → x.state.round.place ≤ 64 → visits 64 (settled x) x.state.round.place ≡ next_leaf (settled x)
unfolding settled
visits_settled x h = visits_next (settled x) h

-- all visits of a search find the leaf that sends next in the state that x stands for, or that its round has closed
pub visited_well : (x : Published) → SoundPublished x → WidePublished x
    → VisitsWell x x.state.round.place (next_leaf (settled x)) (visited x)
unfolding visited
visited_well x sound wide =
    subst (λ (w : ℕ). VisitsWell x x.state.round.place w (visits_from 64 x x.state.round.place))
    (visits_settled x sound.state.place.high)
    (visits_well 64 x x.state.round.place sound wide sound.state.place.high (omega arith))

-- What holds at a closing: every leaf holds less than its longest packet costs, and where no class has a surplus the root holds enough for
-- a quota. Demands 2 and 3.
use mathlib.Core.Bool.{Bool, true, false, cond, ◌&&◌, not}
use mathlib.Core.List.{List}
use mathlib.Core.Path.{◌≡◌, refl, sym}
use Prim.Native.Nat.{ℕ, ◌+◌, ◌-◌, ◌*◌, ◌≤◌, ◌<◌}
use native.Mathlib.Decide.{dec_lt}
use native.Mathlib.Nat.{mul-one}
use native.Mathlib.Omega.{arith}
use lib.Dec.{leb}
use borrow.Author.Tests.{leb-true, leb-false}
use Rattle.checks.proofs.Laws.{not_true_and_false}
use Rattle.sets.specs.Set.{has}
use Rattle.units.specs.Cost.{cost_of}
use Rattle.units.proofs.Laws.{cost_positive, cost_grows}
use Rattle.tree.specs.declared.Tree.{Tree}
use Rattle.tree.specs.Class.{weight_of, longest_of, is_class, is_leaf, is_inner}
use Rattle.tree.specs.Rules.{PlanRules}
use Rattle.tree.specs.Size.{longest_cost}
use Rattle.rules.specs.Sizes.{if_active, active_weights, active_longest, active_size}
use Rattle.tree.specs.Sum.{sum_to, some_to}
use Rattle.tree.proofs.Classes.{both_true, class_in_lem, class_range}
use Rattle.tree.proofs.Rules.{few_classes, longest_range}
use Rattle.tree.proofs.Sums.{some_found, some_which, sum_same, sum_within, sum_longer, sum_add}
use Rattle.state.specs.declared.Account.{Account}
use Rattle.state.specs.Account.{account_of, balance_of, funds_of}
use Rattle.state.specs.State.{State}
use Rattle.sound.specs.Sound.{Sound, total}
use Rattle.rules.specs.Active.{round_active, weight_sum}
use Rattle.rules.specs.Opening.{main, surplus, surplus_at, has_surplus, kind_of, next_kind}
use Rattle.rules.specs.Sending.{first_of, ready, next_leaf}
use Rattle.rules.proofs.Searches.{first_least}
use Rattle.rules.proofs.ByParent.{sum_by_parent}
use Rattle.rules.proofs.Taken.{taken_off}

-- a class number is below 64
pub class_few : (t : Tree) (i : ℕ) → PlanRules t → is_class t i ≡ true → i < 64
class_few t i rules is = omega (arith, few_classes t rules, (class_range t i is).1)

-- an active leaf that the search passed has a balance smaller than its first packet
passed_short : (s : State) (i : ℕ) → is_leaf s.tree i ≡ true → has s.round.active i ≡ true → ready s i ≡ false
    → balance_of s.round.accounts i < cost_of (first_of s i).length
unfolding ready
passed_short s i leaf on e = leb-false (cost_of (first_of s i).length) (balance_of s.round.accounts i) (rw (on, leaf) at e)

module _ (s : State) (sound : Sound s) (closed : next_leaf s ≡ 64) where
  rules : PlanRules s.tree
  rules = sound.fits.tree

  -- when the round has closed every active leaf has: below the place by soundness, from it on because the search passed it
  pub closed_short : (i : ℕ) → is_class s.tree i ≡ true → is_leaf s.tree i ≡ true → has s.round.active i ≡ true
      → balance_of s.round.accounts i < cost_of (first_of s i).length
  unfolding next_leaf
  closed_short i is leaf on = go (dec_lt i s.round.place)
    where
      u : i < 64
      u = class_few s.tree i rules is

      go : Dec (i < s.round.place) → balance_of s.round.accounts i < cost_of (first_of s i).length
      go (yes h) = (sound.behind i u).lacks leaf on h
      go (no h) = passed_short s i leaf on (first_least (ready s) (64 - s.round.place) s.round.place i (omega arith)
          (omega (arith, closed, u)))

  -- an active leaf's first packet costs at most its longest
  first_most : (i : ℕ) → is_class s.tree i ≡ true → is_leaf s.tree i ≡ true → has s.round.active i ≡ true
      → cost_of (first_of s i).length ≤ cost_of (longest_of s.tree i)
  first_most i is leaf on =
      let u = class_few s.tree i rules is in
      cost_grows (first_of s i).length (longest_of s.tree i) ((sound.holds i u).range leaf 0 ((sound.waiting i u).waits leaf on)).high

  -- every leaf, active or not, holds less than its longest packet costs
  pub leaf_short : (i : ℕ) → is_class s.tree i ≡ true → is_leaf s.tree i ≡ true
      → funds_of (account_of s.round.accounts i) < longest_cost s.tree i
  unfolding longest_cost
  leaf_short i is leaf = rw leaf (go (has s.round.active i) refl)
    where
      u : i < 64
      u = class_few s.tree i rules is

      none : funds_of (account_of s.round.accounts i) ≡ balance_of s.round.accounts i
      none = omega (arith, (sound.zero i u).leaf leaf)

      go : (b : Bool) → has s.round.active i ≡ b → funds_of (account_of s.round.accounts i) < cost_of (longest_of s.tree i)
      go true on = omega (arith, none, closed_short i is leaf on, first_most i is leaf on)
      go false off =
          omega (
            arith,
            none,
            (sound.zero i u).balance (class_range s.tree i is).0 off,
            cost_positive (longest_of s.tree i) (longest_range s.tree i (rules.each.longests i is) leaf).0,
          )

-- ---- the surplus test

-- a main round is one for which the test found none
main_none : (b : Bool) → cond b surplus main ≡ main → b ≡ false
main_none false e = refl
main_none true e = absurd (let z : ◌≡◌ {A = ℕ} 0 1 = cc in omega arith)

-- what was not found holds nowhere
none_found : (f : ℕ → Bool) (n i : ℕ) → some_to f n ≡ false → 1 ≤ i → i ≤ n → f i ≡ false
none_found f n i e l u = go (f i) refl
  where
    go : (b : Bool) → f i ≡ b → b ≡ false
    go false h = refl
    go true h = absurd (not_true_and_false (some_found f n i l u h) e)

-- so in a main round no active inner class has a surplus
pub no_surplus : (s : State) → next_kind s ≡ main → (i : ℕ) → is_class s.tree i ≡ true → is_leaf s.tree i ≡ false
    → has (round_active s) i ≡ true → funds_of (account_of s.round.accounts i) < weight_sum s.tree (round_active s) i
unfolding next_kind kind_of has_surplus surplus_at is_inner
no_surplus s kind i is inner on =
    let r = class_range s.tree i is in
    let e = none_found _ s.tree.count i (main_none _ kind) r.0 r.1 in
    leb-false (weight_sum s.tree (round_active s) i) (funds_of (account_of s.round.accounts i)) (rw (is, inner, on) at e)

-- an inner class is a class and no leaf
inner_parts : (t : Tree) (i : ℕ) → is_inner t i ≡ true → (is_class t i ≡ true) × (is_leaf t i ≡ false)
unfolding is_inner
inner_parts t i e =
    let h = both_true (is_class t i) (not (is_leaf t i)) e in
    (h.0, no_leaf_lem (is_leaf t i) h.1)
  where
    no_leaf_lem : (b : Bool) → not b ≡ true → b ≡ false
    no_leaf_lem false e = refl
    no_leaf_lem true e = sym e

-- a class with a surplus is inner and active, and holds its weight sum
surplus_parts : (t : Tree) (active : ℕ) (accounts : List Account) (i : ℕ) → has_surplus t active accounts i ≡ true
    → (is_inner t i ≡ true) × (has active i ≡ true) × (weight_sum t active i ≤ funds_of (account_of accounts i))
unfolding has_surplus surplus_at
surplus_parts t active accounts i e =
    let a = both_true (is_inner t i && has active i) (leb (weight_sum t active i) (funds_of (account_of accounts i))) e in
    let b = both_true (is_inner t i) (has active i) a.0 in
    (b.0, b.1, leb-true (weight_sum t active i) (funds_of (account_of accounts i)) a.1)

-- where no active inner class has a surplus, the round that opens is a main round
pub main_where : (s : State) → ((i : ℕ) → is_class s.tree i ≡ true → is_leaf s.tree i ≡ false → has (round_active s) i ≡ true
    → funds_of (account_of s.round.accounts i) < weight_sum s.tree (round_active s) i) → next_kind s ≡ main
unfolding next_kind kind_of
main_where s short = go (some_to (has_surplus s.tree (round_active s) s.round.accounts) s.tree.count) refl
  where
    go : (b : Bool) → some_to (has_surplus s.tree (round_active s) s.round.accounts) s.tree.count ≡ b → cond b surplus main ≡ main
    go false e = refl
    go true e =
        let w = some_which (has_surplus s.tree (round_active s) s.round.accounts) s.tree.count e in
        let h = surplus_parts s.tree (round_active s) s.round.accounts w.0 w.3 in
        let d = inner_parts s.tree w.0 h.0 in
        absurd (omega (arith, short w.0 d.0 d.1 h.1, h.2))

-- ---- what all but the root hold

-- the weight sums of all classes together are what the active classes weigh
sums_active : (t : Tree) (active : ℕ) → PlanRules t → weight_sum t active 0 + sum_to (weight_sum t active) t.count ≡ active_weights t active
unfolding active_weights if_active
sums_active t active rules =
    let own : sum_to (λ p. weight_sum t active p * 1) t.count ≡ sum_to (weight_sum t active) t.count =
    sum_same (λ p. weight_sum t active p * 1) (weight_sum t active) t.count (λ p l u. mul-one (weight_sum t active p))
    in
    let each =
    sum_same (λ i. cond (has active i) (weight_of t i * 1) 0) (λ i. cond (has active i) (weight_of t i) 0) t.count
    (λ i l u. once i (has active i))
    in
    omega (arith, own, each, sum_by_parent t active (λ p. 1) rules)
  where
    once : (i : ℕ) (b : Bool) → cond b (weight_of t i * 1) 0 ≡ cond b (weight_of t i) 0
    once i true = mul-one (weight_of t i)
    once i false = refl

module _ (s : State) (sound : Sound s) (closed : next_leaf s ≡ 64) (kind : next_kind s ≡ main) where
  -- at a closing without a surplus an active class holds at most its longest packet's cost, or its weight sum; any other nothing
  most : (i : ℕ) → is_class s.tree i ≡ true
      → funds_of (account_of s.round.accounts i)
      ≤ if_active (round_active s) (longest_cost s.tree) i + weight_sum s.tree (round_active s) i
  unfolding if_active
  most i is = go (has (round_active s) i) (is_leaf s.tree i) refl refl
    where
      go : (d b : Bool) → has (round_active s) i ≡ d → is_leaf s.tree i ≡ b
          → funds_of (account_of s.round.accounts i) ≤ cond d (longest_cost s.tree i) 0 + weight_sum s.tree (round_active s) i
      go true true e leaf = omega (arith, leaf_short s sound closed i is leaf)
      go true false e leaf = omega (arith, no_surplus s kind i is leaf e)
      go false b e leaf =
          let u = class_few s.tree i sound.fits.tree is in
          let l = (class_range s.tree i is).0 in
          let z = taken_off s sound i e in
          omega (arith, (sound.zero i u).balance l z, (sound.zero i u).residual l z)

  -- a number past the last class holds nothing
  past_none : (i : ℕ) → s.tree.count < i → i ≤ 63 → funds_of (account_of s.round.accounts i) ≡ 0
  past_none i l u =
      let z = sound.past.past i l in
      omega (arith, (sound.zero i (omega arith)).balance (omega arith) z, (sound.zero i (omega arith)).residual (omega arith) z)

  -- so all but the root hold at most all active leaves' longest packets' cost and all weight sums
  others_most : sum_to (λ i. funds_of (account_of s.round.accounts i)) 63
      ≤ active_longest s.tree (round_active s) + sum_to (weight_sum s.tree (round_active s)) s.tree.count
  unfolding active_longest
  others_most =
      rw past
      (rw (sum_add (if_active (round_active s) (longest_cost s.tree)) (weight_sum s.tree (round_active s)) s.tree.count) at parts)
    where
      few : s.tree.count ≤ 63
      few = few_classes s.tree sound.fits.tree

      past : sum_to (λ i. funds_of (account_of s.round.accounts i)) 63
          ≡ sum_to (λ i. funds_of (account_of s.round.accounts i)) s.tree.count
      past = sum_longer (λ i. funds_of (account_of s.round.accounts i)) s.tree.count 63 few past_none

      parts : sum_to (λ i. funds_of (account_of s.round.accounts i)) s.tree.count
          ≤ sum_to (λ i. if_active (round_active s) (longest_cost s.tree) i + weight_sum s.tree (round_active s) i) s.tree.count
      parts = sum_within _ _ s.tree.count (λ i l u. most i (class_in_lem s.tree i l u))

  -- and with the root's weight sum that is within rule 2's size, whatever size is in force
  pub others_less : weight_sum s.tree (round_active s) 0 + sum_to (λ i. funds_of (account_of s.round.accounts i)) 63
      ≤ active_size s.tree (round_active s)
  unfolding active_size
  others_less = omega (arith, others_most, sums_active s.tree (round_active s) sound.fits.tree)

  -- so where the size in force is no smaller, the root holds its weight sum at least
  pub root_has : active_size s.tree (round_active s) ≤ s.round.size.0
      → weight_sum s.tree (round_active s) 0 ≤ funds_of (account_of s.round.accounts 0)
  unfolding total
  root_has low = omega (arith, low, sound.adds.adds, others_less)

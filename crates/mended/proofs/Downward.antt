-- The pass from the highest class down (R271): 22 at the first class that would need too much, else the mended weights.
use mathlib.Core.Bool.{Bool, true, false, cond, ◌&&◌}
use mathlib.Core.List.{List}
use mathlib.Core.Path.{◌≡◌, refl, sym, ap, ◌∙◌}
use Prim.Native.Nat.{ℕ, zero, suc, ◌+◌, ◌-◌, ◌^◌, ◌≤◌, ◌<◌, max}
use native.Mathlib.Decide.{dec_le, ℕ_discrete}
use native.Mathlib.Omega.{arith}
use lib.Dec.{ltb}
use lib.ListN.{length, get_or, set, replicate, length-set}
use lib.Seq.{get_or-set_same, get_or-set_other, ext_get_or}
use borrow.Author.Tests.{lt-ltb, le-ltb}
use Rattle.checks.specs.declared.Refusal.TheVariants.{NeedsMore}
use Rattle.checks.specs.declared.Refusal.{Refusal}
use Rattle.std.specs.Prelude.{Ok, Err}
use Rattle.checks.specs.Check.{Check, first_broken, refusal_at}
use Rattle.checks.proofs.Laws.{after_passed, passed_both, refused_before, none_broken, decides, pass_over}
use Rattle.units.specs.declared.Weight.{Weight}
use Rattle.tree.specs.declared.Tree.{Tree}
use Rattle.tree.specs.Class.{no_weight, parent_of, weight_of, is_leaf, is_inner, of_child, children_sum}
use Rattle.tree.proofs.Classes.{class_in_lem, class_past, root_no_class, child_light, child_own, child_other}
use Rattle.tree.proofs.Rules.{lower_parent, weight_range}
use Rattle.tree.proofs.Sums.{sum_rest}
use Rattle.tree.proofs.Down.{SumsAbove, sums_start, sums_more}
use Rattle.tree.proofs.Tables.{table_length, table_at}
use Rattle.mended.specs.Weights.{mended_weight, needs_more, mended_weights}
use Rattle.mended.specs.Answer.{downward, need_checks}
use Rattle.mended.specs.Steps.{ReadTree}
use Rattle.mended.proofs.Least.{inner_is, leaf_not_inner, no_class_not_inner, mended_inner, mended_own, none_before}

-- ---- checks made downward

pub down_none : (f : ℕ → List Check) → first_broken (downward f 0) ≡ Ok tt
unfolding downward
down_none f = none_broken

pub down_pass : (f : ℕ → List Check) (n : ℕ) → 1 ≤ n → first_broken (f n) ≡ Ok tt
    → first_broken (downward f n) ≡ first_broken (downward f (n - 1))
unfolding downward
down_pass f zero l e = absurd (omega arith)
down_pass f (suc n) l e =
    let s : suc n - 1 ≡ n = omega arith in
    rw s (after_passed (f (suc n)) (downward f n) e)

pub down_stop : (f : ℕ → List Check) (n : ℕ) {a : Refusal} {p : ℕ} → 1 ≤ n → first_broken (f n) ≡ Err (refusal_at a p)
    → first_broken (downward f n) ≡ Err (refusal_at a p)
unfolding downward
down_stop f zero l e = absurd (omega arith)
down_stop f (suc n) l e = refused_before (f (suc n)) (downward f n) e

pub down_passed : (f : ℕ → List Check) (n : ℕ) → ((i : ℕ) → 1 ≤ i → i ≤ n → first_broken (f i) ≡ Ok tt)
    → first_broken (downward f n) ≡ Ok tt
unfolding downward
down_passed f zero h = none_broken
down_passed f (suc n) h =
    after_passed (f (suc n)) (downward f n) (h (suc n) (omega arith) (omega arith)) ∙ down_passed f n (λ i l u. h i l (omega arith))

pub down_each : (f : ℕ → List Check) (n : ℕ) → first_broken (downward f n) ≡ Ok tt → (i : ℕ) → 1 ≤ i → i ≤ n → first_broken (f i) ≡ Ok tt
unfolding downward
down_each f zero e i l u = absurd (omega arith)
down_each f (suc n) e i l u = go (dec_le i n) (λ h. down_each f n parts.1 i l h)
  where
    parts : (first_broken (f (suc n)) ≡ Ok tt) × (first_broken (downward f n) ≡ Ok tt)
    parts = passed_both (f (suc n)) (downward f n) e

    go : Dec (i ≤ n) → (i ≤ n → first_broken (f i) ≡ Ok tt) → first_broken (f i) ≡ Ok tt
    go (yes h) ih = ih h
    go (no h) ih =
        let s : i ≡ suc n = omega arith in
        rw s parts.0

-- ---- the pass

-- the classes above class i are mended, none above its range, and what they weigh is added to their parents
pub record MendedAbove (t : Tree) (i : ℕ) (sums at : List Weight) : Type 0 where
  pub within : i ≤ t.count
  pub added : SumsAbove t.count 64 (of_child t (mended_weight t)) sums i
  pub done : (k : ℕ) → i < k → (get_or at k no_weight).0 ≡ mended_weight t k
  pub rest : (k : ℕ) → k ≤ i → (get_or at k no_weight).0 ≡ weight_of t k
  pub many : length at ≡ 64
  pub light : (k : ℕ) → i < k → k ≤ t.count → mended_weight t k ≤ 1_000_000
  pub said : first_broken (downward (need_checks t) t.count) ≡ first_broken (downward (need_checks t) i)

module _ (t : Tree) (read : ReadTree t) where
  past_own : (k : ℕ) → t.count < k → mended_weight t k ≡ weight_of t k
  past_own k u = mended_own t read.few read.each k (no_class_not_inner t k (class_past t k u))

  pub root_own : mended_weight t 0 ≡ weight_of t 0
  root_own = mended_own t read.few read.each 0 (no_class_not_inner t 0 (root_no_class t))

  pub above_start : MendedAbove t t.count (replicate 64 no_weight) t.weight
  above_start = record {
    within = omega arith;
    added = sums_start t.count 64 (of_child t (mended_weight t));
    done = λ k u. sym (past_own k u);
    rest = λ k u. refl;
    many = read.weights;
    light = λ k l u. absurd (omega arith);
    said = refl;
  }

  pub low_parent : (i : ℕ) → 1 ≤ i → i ≤ t.count → parent_of t i < i
  low_parent i l u = lower_parent t i (read.each.parents i (class_in_lem t i l u))

  module _ (i : ℕ) (sums at : List Weight) (m : MendedAbove t i sums at) (l : 1 ≤ i) where
    -- the class at hand
    pub own_is : (w : ℕ)
        → w ≡ cond (is_leaf t i) (get_or at i no_weight).0 (max (get_or at i no_weight).0 (get_or sums i no_weight).0) → w ≡ mended_weight t i
    unfolding children_sum
    own_is w e = go (is_leaf t i) refl
      where
        all : (get_or sums i no_weight).0 ≡ children_sum t (mended_weight t) i
        all =
            omega (
              arith,
              m.added.at i (omega (arith, m.within, read.few)),
              none_before t read.few read.each (mended_weight t) i m.within,
            )

        go : (b : Bool) → is_leaf t i ≡ b → w ≡ mended_weight t i
        go true f = rw f at e ∙ m.rest i (omega arith) ∙ sym (mended_own t read.few read.each i (leaf_not_inner t i f))
        go false f =
            let x = mended_inner t read.few read.each i (inner_is t i (class_in_lem t i l m.within) f) in
            omega (arith, rw f at e, m.rest i (omega arith), all, x)

    -- too much: 22 at the class
    pub above_stop : 1_000_000 < mended_weight t i → first_broken (downward (need_checks t) t.count) ≡ Err (refusal_at NeedsMore i)
    unfolding needs_more
    above_stop u = m.said ∙ down_stop (need_checks t) i l (decides _ _ (rw inner (lt-ltb _ _ u)))
      where
        inner : is_inner t i ≡ true
        inner = go (is_leaf t i) refl
          where
            go : (b : Bool) → is_leaf t i ≡ b → is_inner t i ≡ true
            go true f = absurd (
                omega (
                  arith,
                  u,
                  mended_own t read.few read.each i (leaf_not_inner t i f),
                  (weight_range t i (read.each.weights i (class_in_lem t i l m.within))).1,
                ))
            go false f = inner_is t i (class_in_lem t i l m.within) f

    -- what it adds to its parent's sum fits
    pub above_fits : (p : ℕ) → p < 64 → mended_weight t i ≤ 1_000_000 → (get_or sums p no_weight).0 + mended_weight t i < 2 ^ 32
    above_fits p u few =
        omega (
          arith,
          read.few,
          m.added.at p u,
          sum_rest (of_child t (mended_weight t) p) 1_000_000 t.count i m.within
              (λ k a b. child_light t (mended_weight t) p k 1_000_000 (m.light k a b)),
        )

    -- one class more
    pub above_more : (p : ℕ) (w x : Weight) → p ≡ parent_of t i → w.0 ≡ mended_weight t i → mended_weight t i ≤ 1_000_000
        → x.0 ≡ (get_or sums p no_weight).0 + w.0
        → MendedAbove t (i - 1) (set sums p x) (set at i w)
    unfolding needs_more
    above_more p w x e own few sum = record {
      within = omega (arith, m.within);
      added =
          sums_more t.count 64 (of_child t (mended_weight t)) sums i p w.0 x m.added l m.within
          (omega (arith, low_parent i l m.within, m.within, read.few))
          (ap (λ (q : ℕ). of_child t (mended_weight t) q i) e ∙ child_own t (mended_weight t) i ∙ sym own)
          (λ q ne. child_other t (mended_weight t) i q (λ z. ne (e ∙ z))) sum;
      done = λ k u. at_done k u (ℕ_discrete k i);
      rest = λ k u. ap (λ (y : Weight). y.0) (get_or-set_other at i k w no_weight (λ z. omega arith)) ∙ m.rest k (omega arith);
      many = length-set at i w ∙ m.many;
      light = λ k a b. at_light k a b (ℕ_discrete k i);
      said = m.said ∙ down_pass (need_checks t) i l (pass_over _ _ (go (is_inner t i)) ∙ none_broken);
    }
      where
        at_done : (k : ℕ) → i - 1 < k → Dec (k ≡ i) → (get_or (set at i w) k no_weight).0 ≡ mended_weight t k
        at_done k u (yes z) =
            rw z (ap (λ (y : Weight). y.0) (get_or-set_same at i w no_weight (omega (arith, m.many, m.within, read.few))) ∙ own)
        at_done k u (no z) = ap (λ (y : Weight). y.0) (get_or-set_other at i k w no_weight z) ∙ m.done k (omega arith)

        at_light : (k : ℕ) → i - 1 < k → k ≤ t.count → Dec (k ≡ i) → mended_weight t k ≤ 1_000_000
        at_light k a b (yes z) = rw z few
        at_light k a b (no z) = m.light k (omega arith) b

        go : (b : Bool) → (b && ltb 1_000_000 (mended_weight t i)) ≡ false
        go true = le-ltb _ _ few
        go false = refl

  -- at last all
  pub above_end : (sums at : List Weight) → MendedAbove t 0 sums at → at ≡ mended_weights t
  above_end sums at m =
      ext_get_or no_weight at (mended_weights t) (m.many ∙ sym (table_length new 64))
      (λ k u.
      let v : k < 64 = omega (arith, u, m.many) in
      go k (ℕ_discrete k 0) ∙ sym (table_at new no_weight 64 k v))
    where
      new : ℕ → Weight
      new i = record { 0 = mended_weight t i }

      weight : (w : Weight) (n : ℕ) → w.0 ≡ n → w ≡ record { 0 = n }
      weight w n e = ap (λ (k : ℕ). record { 0 = k }) e

      go : (k : ℕ) → Dec (k ≡ 0) → get_or at k no_weight ≡ record { 0 = mended_weight t k }
      go k (yes z) = weight (get_or at k no_weight) (mended_weight t k) (rw z (m.rest 0 (omega arith) ∙ sym root_own))
      go k (no z) = weight (get_or at k no_weight) (mended_weight t k) (m.done k (omega arith))

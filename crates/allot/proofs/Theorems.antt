-- What the rates of a plan promise (R76 to R79), from the definitions alone.
use mathlib.Core.Bool.{Bool, true, false, cond}
use mathlib.Core.List.{List}
use mathlib.Core.Path.{◌≡◌, refl}
use Prim.Native.Nat.{ℕ, ◌+◌, ◌*◌, ◌≤◌, ◌<◌}
use native.Mathlib.Decide.{dec_le, ℕ_discrete}
use native.Mathlib.Omega.{arith}
use Rattle.checks.proofs.Laws.{not_true_and_false}
use Rattle.tree.specs.declared.Tree.{Tree}
use Rattle.tree.specs.Class.{parent_of, weight_of, is_leaf, is_child, of_child, children_sum}
use Rattle.tree.specs.Rules.{PlanRules}
use Rattle.tree.specs.Sum.{sum_to}
use Rattle.tree.proofs.Classes.{class_in_lem}
use Rattle.tree.proofs.Sums.{sum_same, sum_zero, sum_add}
use Rattle.tree.proofs.ByParent.{by_parent}
use Rattle.allot.specs.Request.{request_of}
use Rattle.allot.specs.Share.{share_at, Fits, Largest, unmet_weight}
use Rattle.allot.specs.Rates.{Child, SharedBy, Allots}
use Rattle.tree.specs.Below.{Above}
use Rattle.allot.proofs.Fair.{child_of, parent_inner, children_same, fits_met, fair_unique, fair_exists, fair_bound}
use Rattle.allot.proofs.Fair.{next_too_large, one_more_lem}
use Rattle.tree.proofs.Leaves.{root_no_leaf}
use Rattle.allot.proofs.Requests.{requests_add}

-- F of a class: it exists, it is at most what the class has, and it is the only one
pub record OneF (t : Tree) (request : ℕ → ℕ) (p has : ℕ) : Type 0 where
  pub f : ℕ
  pub largest : Largest (Fits t request p has) f
  pub bound : f ≤ has
  pub only : (g : ℕ) → Largest (Fits t request p has) g → g ≡ f

module _ (t : Tree) (table : List ℕ) (rules : PlanRules t) where
  -- so it is at each class whose request is not met, whatever it has
  pub one_f : (p has : ℕ) → Above t p → has < request_of t table p → OneF t (request_of t table) p has
  one_f p has a u = record {
    f = found.0;
    largest = found.1;
    bound = fair_bound t (request_of t table) p has rules unmet found.0 found.1;
    only = λ g l. fair_unique t (request_of t table) p has g found.0 l found.1;
  }
    where
      unmet : has < children_sum t (request_of t table) p
      unmet = omega (arith, requests_add t rules table p a.inner)

      found : (f : ℕ) × Largest (Fits t (request_of t table) p has) f
      found = fair_exists t (request_of t table) p has rules unmet

  -- at a class whose request is met every number fits
  pub every_f_fits : (p has f : ℕ) → Above t p → request_of t table p ≤ has → Fits t (request_of t table) p has f
  every_f_fits p has f a m = fits_met t (request_of t table) p has f (omega (arith, requests_add t rules table p a.inner))

module _ (t : Tree) (capacity : ℕ) (table : List ℕ) (gets unallotted : ℕ → ℕ) (rules : PlanRules t)
    (a : Allots t capacity (request_of t table) gets unallotted) where
  -- a class is met, or it shares out by F
  by_parent_of : {P : Type 0} (p i : ℕ) → Child t p i → (gets i ≡ request_of t table i → P)
      → ((f : ℕ) → SharedBy t (request_of t table) gets p f → P) → P
  by_parent_of {P} p i c met unmet = go (dec_le (request_of t table p) (gets p))
    where
      go : Dec (request_of t table p ≤ gets p) → P
      go (yes m) = met (a.met p i m c)
      go (no m) =
          let w = a.unmet p (parent_inner t p i rules c) (omega arith) in
          unmet w.0 w.1

  -- no class gets more than it requests
  pub gets_most : (i : ℕ) → i ≤ t.count → gets i ≤ request_of t table i
  gets_most i u = go (ℕ_discrete i 0)
    where
      go : Dec (i ≡ 0) → gets i ≤ request_of t table i
      go (yes z) = rw z (omega (arith, a.root))
      go (no z) =
          let c : Child t (parent_of t i) i = record { class = class_in_lem t i (omega arith) u; parent = refl } in
          by_parent_of (parent_of t i) i c (λ e. omega (arith, e)) (λ f s. omega (arith, s.each i c))

  -- an unmet child gets exactly weight × F
  pub unmet_gets : (p f i : ℕ) → SharedBy t (request_of t table) gets p f → Child t p i → gets i < request_of t table i
      → gets i ≡ weight_of t i * f
  unmet_gets p f i s c u = omega (arith, s.each i c)

  -- two unmet siblings get the same per unit of weight
  pub same_per_weight : (p i j : ℕ) → Child t p i → Child t p j → gets i < request_of t table i → gets j < request_of t table j
      → gets i * weight_of t j ≡ gets j * weight_of t i
  same_per_weight p i j c d u v =
      by_parent_of p i c
      (λ e. absurd (omega arith))
      (λ f s. rw (unmet_gets p f i s c u, unmet_gets p f j s d v) (cross f))
    where
      cross : (f : ℕ) → weight_of t i * f * weight_of t j ≡ weight_of t j * f * weight_of t i
      cross f = omega arith

  -- nothing stays unallotted where the request is met
  pub left_met : (p : ℕ) → Above t p → request_of t table p ≤ gets p → unallotted p ≡ 0
  left_met p b m =
      omega (
        arith,
        a.left p b,
        children_same t gets (request_of t table) p (λ i c. a.met p i m c),
        requests_add t rules table p b.inner,
        gets_most p b.class,
      )

  -- else less than the weight sum of the unmet children
  pub left_unmet : (p : ℕ) → Above t p → gets p < request_of t table p
      → unallotted p < unmet_weight t (request_of t table) gets p
  left_unmet p b u =
      let w = a.unmet p b u in
      let x = request_of t table in
      omega (
        arith,
        a.left p b,
        children_same t gets (share_at t x w.0) p w.1.each,
        one_more_lem t x gets p w.0 w.1.each,
        next_too_large t x p (gets p) w.0 w.1.largest,
      )

  -- all allotments to leaves and all that stays unallotted add to what the root has
  pub all_allotted : sum_to (λ i. cond (is_leaf t i) (gets i) 0) t.count + (unallotted 0 + sum_to unallotted t.count)
      ≡ gets 0
  unfolding children_sum of_child
  all_allotted =
      let root = a.left 0 (record { class = omega arith; inner = root_no_leaf t rules }) in
      let all = by_parent t gets rules in
      let each = sum_same
      (λ p. (unallotted p + children_sum t gets p) + cond (is_leaf t p) (gets p) 0)
      gets t.count (λ p l u. at p l u (is_leaf t p) refl)
      in
      let parts = sum_add (λ p. unallotted p + children_sum t gets p) (λ p. cond (is_leaf t p) (gets p) 0) t.count in
      let halves = sum_add unallotted (children_sum t gets) t.count in
      omega arith
    where
      -- a leaf has no children
      none : (p : ℕ) → is_leaf t p ≡ true → children_sum t gets p ≡ 0
      none p leaf = sum_zero (of_child t gets p) t.count (λ i l u. child i l u (is_child t p i) refl)
        where
          child : (i : ℕ) → 1 ≤ i → i ≤ t.count → (b : Bool) → is_child t p i ≡ b → cond b (gets i) 0 ≡ 0
          child i l u true e = absurd (not_true_and_false leaf (parent_inner t p i rules (child_of t p i l u e)).inner)
          child i l u false e = refl

      at : (p : ℕ) → 1 ≤ p → p ≤ t.count → (b : Bool) → is_leaf t p ≡ b
          → (unallotted p + children_sum t gets p) + cond b (gets p) 0 ≡ gets p
      at p l u true e = omega (arith, none p e, a.leaf p e)
      at p l u false e = omega (arith, a.left p (record { class = u; inner = e }))

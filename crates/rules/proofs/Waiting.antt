-- Laws of the classes that a round takes in: a class has a packet at or below it exactly when it waits itself or a child of it has one.
-- Demand 2.
use mathlib.Core.Bool.{Bool, true, false, cond, ◌&&◌, ◌||◌, or-true}
use mathlib.Core.Logic.{◌⊎◌, inl, inr}
use mathlib.Core.Path.{◌≡◌, refl, sym, ap, ap₂, ◌∙◌}
use Prim.Native.Nat.{ℕ, zero, suc, ◌-◌, ◌^◌, ◌≤◌, ◌<◌}
use native.Mathlib.Decide.{dec_le, ℕ_discrete}
use native.Mathlib.Omega.{arith}
use lib.Dec.{eqb, leb}
use borrow.Author.Tests.{eqb-true}
use Rattle.checks.specs.Check.{Exactly}
use Rattle.checks.proofs.Laws.{not_true_and_false}
use Rattle.sets.specs.Set.{has, with}
use Rattle.sets.proofs.Laws.{has_with_same, has_with_other, has_empty, with_fits, set_ext, set_empty}
use Rattle.tree.specs.declared.Tree.{Tree}
use Rattle.tree.specs.Class.{parent_of, is_class, is_leaf}
use Rattle.tree.specs.Rules.{PlanRules}
use Rattle.tree.specs.Sum.{some_to}
use Rattle.tree.proofs.Classes.{both_true, class_in_lem, class_range}
use Rattle.tree.proofs.Rules.{few_classes, parent_lower, parent_below}
use Rattle.tree.proofs.Below.{below_root, below_step, below_self}
use Rattle.tree.proofs.Sums.{some_found, some_which, some_never}
use Rattle.state.specs.declared.Link.{Link}
use Rattle.state.specs.State.{meaning}
use Rattle.state.proofs.Meaning.{meaning_held}
use Rattle.tree.specs.Below.{at_or_below}
use Rattle.rules.specs.Active.{waits, some_below, set_of, upward, round_active}
use Rattle.rules.specs.Steps.{holds_some}

-- ---- the set of the classes for which f holds

pub set_past : (f : ℕ → Bool) (n k : ℕ) → n < k → has (set_of f n) k ≡ false
unfolding set_of
set_past f zero k u = go (f 0)
  where
    go : (b : Bool) → has (cond b (with 0 0) 0) k ≡ false
    go true = has_with_other 0 0 k (λ z. omega arith) ∙ has_empty k
    go false = has_empty k
set_past f (suc n) k u = go (f (suc n)) (set_past f n k (omega arith))
  where
    go : (b : Bool) → has (set_of f n) k ≡ false → has (cond b (with (set_of f n) (suc n)) (set_of f n)) k ≡ false
    go true ih = has_with_other (set_of f n) (suc n) k (λ z. omega arith) ∙ ih
    go false ih = ih

pub set_has : (f : ℕ → Bool) (n k : ℕ) → k ≤ n → has (set_of f n) k ≡ f k
unfolding set_of
set_has f zero k u =
    let e : k ≡ 0 = omega arith in
    rw e (go (f 0))
  where
    go : (b : Bool) → has (cond b (with 0 0) 0) 0 ≡ b
    go true = has_with_same 0 0
    go false = has_empty 0
set_has f (suc n) k u = go (dec_le k n) (λ m. set_has f n k m)
  where
    old : (b : Bool) → k ≤ n → has (set_of f n) k ≡ f k → has (cond b (with (set_of f n) (suc n)) (set_of f n)) k ≡ f k
    old true m ih = has_with_other (set_of f n) (suc n) k (λ z. omega arith) ∙ ih
    old false m ih = ih

    new : (b : Bool) → has (cond b (with (set_of f n) (suc n)) (set_of f n)) (suc n) ≡ b
    new true = has_with_same (set_of f n) (suc n)
    new false = set_past f n (suc n) (omega arith)

    go : Dec (k ≤ n) → (k ≤ n → has (set_of f n) k ≡ f k) → has (cond (f (suc n)) (with (set_of f n) (suc n)) (set_of f n)) k ≡ f k
    go (yes m) ih = old (f (suc n)) m (ih m)
    go (no m) ih =
        let e : k ≡ suc n = omega arith in
        rw e (new (f (suc n)))

pub set_fits : (f : ℕ → Bool) (n : ℕ) → n < 64 → set_of f n < 2 ^ 64
unfolding set_of
set_fits f zero u = go (f 0)
  where
    go : (b : Bool) → cond b (with 0 0) 0 < 2 ^ 64
    go true = with_fits 0 0 (omega arith) (omega arith)
    go false = omega arith
set_fits f (suc n) u = go (f (suc n)) (set_fits f n (omega arith))
  where
    go : (b : Bool) → set_of f n < 2 ^ 64 → cond b (with (set_of f n) (suc n)) (set_of f n) < 2 ^ 64
    go true ih = with_fits (set_of f n) (suc n) ih u
    go false ih = ih

-- ---- the parents of the classes above n are settled

pub Marked : Tree → (ℕ → Bool) → ℕ → ℕ → Type 0
Marked t w n k =
    (w k ≡ true) ⊎ ((c : ℕ) × (n < c) × (is_class t c ≡ true) × (parent_of t c ≡ k) × (some_below t w c ≡ true))

pub record Marks (t : Tree) (w : ℕ → Bool) (active n : ℕ) : Type 0 where
  pub fits : active < 2 ^ 64
  pub at : (k : ℕ) → k < 64 → Exactly (has active k) (Marked t w n k)

-- ---- at or below

module _ (t : Tree) (rules : PlanRules t) where
  -- what is at or below a class is at or below its parent
  pub below_up : (c j : ℕ) → is_class t c ≡ true → j < 64 → at_or_below t c j ≡ true → at_or_below t (parent_of t c) j ≡ true
  below_up c j is u h = climb j j (omega arith) u h
    where
      climb : (n j : ℕ) → j ≤ n → j < 64 → at_or_below t c j ≡ true → at_or_below t (parent_of t c) j ≡ true
      climb zero j a u h =
          let z : j ≡ 0 = omega arith in
          let e : eqb c 0 ≡ true = sym (below_root t rules c) ∙ (rw z at h) in
          absurd (omega (arith, eqb-true c 0 e, (class_range t c is).0))
      climb (suc n) j a u h = go (ℕ_discrete j 0) (eqb c j) refl (λ k x y z. climb n k x y z)
        where
          go : Dec (j ≡ 0) → (b : Bool) → eqb c j ≡ b
              → ((k : ℕ) → k ≤ n → k < 64 → at_or_below t c k ≡ true → at_or_below t (parent_of t c) k ≡ true)
              → at_or_below t (parent_of t c) j ≡ true
          go (yes z) b e ih =
              let f : eqb c 0 ≡ true = sym (below_root t rules c) ∙ (rw z at h) in
              absurd (omega (arith, eqb-true c 0 f, (class_range t c is).0))
          go (no z) true e ih =
              let q = eqb-true c j e in
              let low = parent_below t j rules (omega arith) u in
              below_step t rules (parent_of t c) j (omega arith) u
              ∙ ap (λ (x : Bool). eqb (parent_of t c) j || x)
              (ap (λ (x : ℕ). at_or_below t (parent_of t c) (parent_of t x)) (sym q)
              ∙ below_self t rules (parent_of t c) (rw (← q) at (few low)))
              ∙ or-true (eqb (parent_of t c) j)
            where
              few : parent_of t j < j → parent_of t j < 64
              few l = omega arith
          go (no z) false e ih =
              let low = parent_below t j rules (omega arith) u in
              let more : at_or_below t c (parent_of t j) ≡ true = sym (ap (λ (x : Bool). x || at_or_below t c (parent_of t j)) e)
              ∙ sym (below_step t rules c j (omega arith) u) ∙ h in
              below_step t rules (parent_of t c) j (omega arith) u
              ∙ ap (λ (x : Bool). eqb (parent_of t c) j || x) (ih (parent_of t j) (omega arith) (omega arith) more)
              ∙ or-true (eqb (parent_of t c) j)

  -- what is at or below a class is the class, or at or below a child of it
  pub below_child : (i j : ℕ) → is_class t j ≡ true → at_or_below t i j ≡ true
      → (j ≡ i) ⊎ ((c : ℕ) × (is_class t c ≡ true) × (parent_of t c ≡ i) × (at_or_below t c j ≡ true))
  below_child i j is h = climb j j (omega arith) is h
    where
      Found : ℕ → Type 0
      Found j = (j ≡ i) ⊎ ((c : ℕ) × (is_class t c ≡ true) × (parent_of t c ≡ i) × (at_or_below t c j ≡ true))

      climb : (n j : ℕ) → j ≤ n → is_class t j ≡ true → at_or_below t i j ≡ true → Found j
      climb zero j a is h = absurd (omega (arith, (class_range t j is).0))
      climb (suc n) j a is h = go (eqb i j) refl (λ k x y z. climb n k x y z)
        where
          u : j < 64
          u = omega (arith, (class_range t j is).1, few_classes t rules)

          step : (x : ℕ) → at_or_below t x (parent_of t j) ≡ true → at_or_below t x j ≡ true
          step x e = below_step t rules x j (class_range t j is).0 u ∙ ap (λ (y : Bool). eqb x j || y) e ∙ or-true (eqb x j)

          go : (b : Bool) → eqb i j ≡ b → ((k : ℕ) → k ≤ n → is_class t k ≡ true → at_or_below t i k ≡ true → Found k) → Found j
          go true e ih = inl (sym (eqb-true i j e))
          go false e ih = up (ℕ_discrete (parent_of t j) 0)
            where
              low : parent_of t j < j
              low = parent_lower t j rules is

              more : at_or_below t i (parent_of t j) ≡ true
              more =
                  sym (ap (λ (x : Bool). x || at_or_below t i (parent_of t j)) e) ∙ sym (below_step t rules i j (class_range t j is).0 u) ∙ h

              up : Dec (parent_of t j ≡ 0) → Found j
              up (yes z) =
                  let r : eqb i 0 ≡ true = sym (below_root t rules i) ∙ (rw z at more) in
                  inr (j, is, z ∙ sym (eqb-true i 0 r), below_self t rules j u)
              up (no z) =
                  on (ih (parent_of t j) (omega (arith, low))
                  (class_in_lem t (parent_of t j) (omega arith) (omega (arith, low, (class_range t j is).1))) more)
                where
                  on : Found (parent_of t j) → Found j
                  on (inl q) = inr (j, is, q, below_self t rules j u)
                  on (inr w) = inr (w.0, w.1, w.2, step w.0 w.3)

  -- ---- the classes at or above those that w tells

  module _ (w : ℕ → Bool) where
    pub some_self : (i : ℕ) → is_class t i ≡ true → w i ≡ true → some_below t w i ≡ true
    unfolding some_below
    some_self i is e =
        let r = class_range t i is in
        let u : i < 64 = omega (arith, r.1, few_classes t rules) in
        some_found (λ j. w j && at_or_below t i j) t.count i r.0 r.1 (rw (e, below_self t rules i u))

    pub some_parent : (c : ℕ) → is_class t c ≡ true → some_below t w c ≡ true → some_below t w (parent_of t c) ≡ true
    unfolding some_below
    some_parent c is e =
        let f = some_which (λ j. w j && at_or_below t c j) t.count e in
        let h = both_true (w f.0) (at_or_below t c f.0) f.3 in
        let u : f.0 < 64 = omega (arith, f.2, few_classes t rules) in
        some_found (λ j. w j && at_or_below t (parent_of t c) j) t.count f.0 f.1 f.2 (rw (h.0, below_up c f.0 is u h.1))

    unfoldable pub SelfOrChild : ℕ → Type 0
    SelfOrChild i = ((is_class t i ≡ true) × (w i ≡ true)) ⊎ ((c : ℕ) × (is_class t c ≡ true) × (parent_of t c ≡ i) × (some_below t w c ≡ true))

    pub some_split : (i : ℕ) → some_below t w i ≡ true → SelfOrChild i
    unfolding some_below SelfOrChild
    some_split i e =
        let f = some_which (λ j. w j && at_or_below t i j) t.count e in
        let h = both_true (w f.0) (at_or_below t i f.0) f.3 in
        let is = class_in_lem t f.0 f.1 f.2 in
        go f.0 is f.1 f.2 h.0 (below_child i f.0 is h.1)
      where
        go : (j : ℕ) → is_class t j ≡ true → 1 ≤ j → j ≤ t.count → w j ≡ true
            → (j ≡ i) ⊎ ((c : ℕ) × (is_class t c ≡ true) × (parent_of t c ≡ i) × (at_or_below t c j ≡ true))
            → ((is_class t i ≡ true) × (w i ≡ true))
            ⊎ ((c : ℕ) × (is_class t c ≡ true) × (parent_of t c ≡ i) × (some_to (λ j. w j && at_or_below t c j) t.count ≡ true))
        go j is l u e (inl q) = inl (rw q at is, rw q at e)
        go j is l u e (inr d) = inr (d.0, d.1, d.2, some_found (λ k. w k && at_or_below t d.0 k) t.count j l u (rw (e, d.3)))

    -- no class past the last has one
    above_last : (k : ℕ) → t.count < k → SelfOrChild k → ⊥
    unfolding SelfOrChild
    above_last k h (inl x) = omega (arith, (class_range t k x.0).1)
    above_last k h (inr x) = omega (arith, parent_lower t x.0 rules x.1, (class_range t x.0 x.1).1, x.2)

    -- whether class n is taken in
    taken_is : (active n : ℕ) → 1 ≤ n → n ≤ t.count → Marks t w active n → has active n ≡ some_below t w n
    unfolding Marked SelfOrChild
    taken_is active n l u m = go (has active n) (some_below t w n) refl refl
      where
        v : n < 64
        v = omega (arith, few_classes t rules)

        up : Marked t w n n → some_below t w n ≡ true
        up (inl h) = some_self n (class_in_lem t n l u) h
        up (inr h) = ap (some_below t w) (sym h.3) ∙ some_parent h.0 h.2 h.4

        down : SelfOrChild n → Marked t w n n
        down (inl h) = inl h.1
        down (inr h) = inr (h.0, (rw h.2 at (parent_lower t h.0 rules h.1)), h.1, h.2, h.3)

        go : (a d : Bool) → has active n ≡ a → some_below t w n ≡ d → a ≡ d
        go true d e g = sym (sym g ∙ up ((m.at n v).sound e))
        go false true e g = sym e ∙ (m.at n v).complete (down (some_split n g))
        go false false e g = refl

    -- at first the set is that of the classes that w tells
    pub marks_start : (waiting : ℕ) → waiting < 2 ^ 64 → ((k : ℕ) → k < 64 → has waiting k ≡ w k) → Marks t w waiting t.count
    unfolding Marked
    marks_start waiting fits same = record {
      fits = fits;
      at = λ k u. record { sound = λ e. inl (sym (same k u) ∙ e); complete = λ m. told k u m };
    }
      where
        told : (k : ℕ) → k < 64 → Marked t w t.count k → has waiting k ≡ true
        told k u (inl h) = same k u ∙ h
        told k u (inr h) = absurd (omega (arith, h.1, (class_range t h.0 h.2).1))

    -- one class more
    pub marks_step : (active n : ℕ) → 1 ≤ n → n ≤ t.count → Marks t w active n → (on : Bool) → on ≡ has active n
        → Marks t w (cond on (with active (parent_of t n)) active) (n - 1)
    unfolding Marked
    marks_step active n l u m on is = go on (is ∙ taken_is active n l u m)
      where
        p : ℕ
        p = parent_of t n

        class : is_class t n ≡ true
        class = class_in_lem t n l u

        v : n < 64
        v = omega (arith, few_classes t rules)

        weaken : (k : ℕ) → Marked t w n k → Marked t w (n - 1) k
        weaken k (inl h) = inl h
        weaken k (inr h) = inr (h.0, omega (arith, h.1), h.2, h.3, h.4)

        keeps : (k : ℕ) → has active k ≡ true → Dec (k ≡ p) → has (with active p) k ≡ true
        keeps k e (yes q) = rw q (has_with_same active p)
        keeps k e (no q) = has_with_other active p k q ∙ e

        sound : (k : ℕ) → k < 64 → true ≡ some_below t w n → has (with active p) k ≡ true → Dec (k ≡ p) → Marked t w (n - 1) k
        sound k b some e (yes q) = inr (n, omega arith, class, sym q, sym some)
        sound k b some e (no q) = weaken k ((m.at k b).sound (sym (has_with_other active p k q) ∙ e))

        complete : (k : ℕ) → k < 64 → Marked t w (n - 1) k → has (with active p) k ≡ true
        complete k b (inl h) = keeps k ((m.at k b).complete (inl h)) (ℕ_discrete k p)
        complete k b (inr h) = at (ℕ_discrete h.0 n)
          where
            at : Dec (h.0 ≡ n) → has (with active p) k ≡ true
            at (yes r) = ap (has (with active p)) (sym h.3 ∙ ap (parent_of t) r) ∙ has_with_same active p
            at (no r) = keeps k ((m.at k b).complete (inr (h.0, omega (arith, h.1), h.2, h.3, h.4))) (ℕ_discrete k p)

        narrow : (k : ℕ) → false ≡ some_below t w n → Marked t w (n - 1) k → Marked t w n k
        narrow k none (inl h) = inl h
        narrow k none (inr h) = at (ℕ_discrete h.0 n)
          where
            at : Dec (h.0 ≡ n) → Marked t w n k
            at (yes r) = absurd (not_true_and_false (ap (some_below t w) (sym r) ∙ h.4) (sym none))
            at (no r) = inr (h.0, omega (arith, h.1), h.2, h.3, h.4)

        go : (b : Bool) → b ≡ some_below t w n → Marks t w (cond b (with active p) active) (n - 1)
        go true some = record {
          fits = with_fits active p m.fits (omega (arith, parent_lower t n rules class, v));
          at = λ k b. record { sound = λ e. sound k b some e (ℕ_discrete k p); complete = λ x. complete k b x };
        }
        go false none = record {
          fits = m.fits;
          at = λ k b. record { sound = λ e. weaken k ((m.at k b).sound e); complete = λ x. (m.at k b).complete (narrow k none x) };
        }

    -- when all are settled, the set is the one the rules say
    pub marks_all : ((k : ℕ) → k < 64 → w k ≡ true → is_class t k ≡ true) → (active : ℕ) → Marks t w active 0 → active ≡ upward t w
    unfolding Marked SelfOrChild upward
    marks_all tells active m =
        set_ext active (set_of (some_below t w) t.count) m.fits
        (set_fits (some_below t w) t.count (omega (arith, few_classes t rules))) (λ k u. same k u)
      where
        below : (k : ℕ) → k < 64 → Marked t w 0 k → some_below t w k ≡ true
        below k u (inl h) = some_self k (tells k u h) h
        below k u (inr h) = ap (some_below t w) (sym h.3) ∙ some_parent h.0 h.2 h.4

        marked : (k : ℕ) → SelfOrChild k → Marked t w 0 k
        marked k (inl h) = inl h.1
        marked k (inr h) = inr (h.0, omega (arith, (class_range t h.0 h.1).0), h.1, h.2, h.3)

        is : (k : ℕ) → k < 64 → has active k ≡ some_below t w k
        is k u = go (has active k) (some_below t w k) refl refl
          where
            go : (a b : Bool) → has active k ≡ a → some_below t w k ≡ b → a ≡ b
            go true b x y = sym (sym y ∙ below k u ((m.at k u).sound x))
            go false true x y = sym x ∙ (m.at k u).complete (marked k (some_split k y))
            go false false x y = refl

        same : (k : ℕ) → k < 64 → has active k ≡ has (set_of (some_below t w) t.count) k
        same k u = at (dec_le k t.count)
          where
            at : Dec (k ≤ t.count) → has active k ≡ has (set_of (some_below t w) t.count) k
            at (yes h) = is k u ∙ sym (set_has (some_below t w) t.count k h)
            at (no h) = is k u ∙ off (some_below t w k) refl ∙ sym (set_past (some_below t w) t.count k (omega arith))
              where
                off : (b : Bool) → some_below t w k ≡ b → b ≡ false
                off false e = refl
                off true e = absurd (above_last k (omega arith) (some_split k e))

    -- where it tells no class none is taken in
    pub upward_none : ((i : ℕ) → 1 ≤ i → i ≤ t.count → w i ≡ false) → upward t w ≡ 0
    unfolding upward some_below
    upward_none none =
        set_empty (set_of (some_below t w) t.count) (set_fits (some_below t w) t.count (omega (arith, few_classes t rules)))
        (λ k u. at k (dec_le k t.count))
      where
        at : (k : ℕ) → Dec (k ≤ t.count) → has (set_of (some_below t w) t.count) k ≡ false
        at k (no h) = set_past (some_below t w) t.count k (omega arith)
        at k (yes h) =
            set_has (some_below t w) t.count k h
            ∙ some_never (λ j. w j && at_or_below t k j) t.count (λ j l u. rw (none j l u) refl)

-- ---- what the record's counts say is what its meaning says

pub some_same : (f g : ℕ → Bool) (n : ℕ) → ((i : ℕ) → 1 ≤ i → i ≤ n → f i ≡ g i) → some_to f n ≡ some_to g n
unfolding some_to
some_same f g zero h = refl
some_same f g (suc n) h = ap₂ ◌||◌ (some_same f g n (λ i l u. h i l (omega arith))) (h (suc n) (omega arith) (omega arith))

set_same : (f g : ℕ → Bool) (n : ℕ) → ((i : ℕ) → f i ≡ g i) → set_of f n ≡ set_of g n
unfolding set_of
set_same f g zero h = ap (λ (b : Bool). cond b (with 0 0) 0) (h 0)
set_same f g (suc n) h =
    ap₂ (λ (b : Bool) (s : ℕ). cond b (with s (suc n)) s) (h (suc n)) (set_same f g n h)

-- who is told alike is taken in alike
pub upward_same : (t : Tree) (v w : ℕ → Bool) → ((i : ℕ) → 1 ≤ i → i ≤ t.count → v i ≡ w i) → upward t v ≡ upward t w
unfolding upward some_below
upward_same t v w same =
    set_same _ _ t.count (λ i. some_same _ _ t.count (λ j l u. ap (λ (b : Bool). b && at_or_below t i j) (same j l u)))

pub active_meaning : (l : Link) → PlanRules l.tree → upward l.tree (holds_some l.tree l.held) ≡ round_active (meaning l)
unfolding round_active holds_some waits
active_meaning l rules =
    upward_same l.tree _ _
    (λ i a b.
    ap (λ (n : ℕ). is_leaf l.tree i && leb 1 n) (sym (meaning_held l i (omega (arith, few_classes l.tree rules)))))

-- Laws of checks made in order. Demand 1: a refusal is for the first check broken and for no other cause.
use mathlib.Core.Bool.{Bool, true, false}
use mathlib.Core.List.{List, [], ◌∷◌, ◌++◌}
use mathlib.Core.Logic.{◌⊎◌, inl, inr}
use mathlib.Core.Path.{◌≡◌, refl, sym, ap, ap₂, ◌∙◌}
use Prim.Native.Nat.{ℕ, zero, suc, ◌+◌, ◌-◌, ◌≤◌, ◌<◌}
use native.Mathlib.Decide.{dec_le}
use native.Mathlib.Bridge.{le_prop}
use native.Mathlib.Omega.{arith}
use Rattle.checks.specs.declared.Refusal.{Refusal}
use Rattle.checks.specs.declared.Refusal.TheVariants.{Cut, UnknownKind, TooMany, BadParent, BadWeight, BadLongest, TooHeavy, Childless, NoClass, TooLong, NotSound}
use Rattle.checks.specs.declared.Refusal.TheVariants.{NoLeaf, BadLength, Full, NothingWaits, NoRoom, BadRule, LateRule, Unpaired, BadCapacity, BadRequest, NeedsMore, Other}
use Rattle.checks.specs.declared.unlisted.Unlisted.{Unlisted, beyond-type}
use Rattle.checks.specs.declared.Refused.{Refused}
use Rattle.std.specs.Prelude.{Ok, Err, slice_index_or}
use Rattle.checks.specs.Check.{number, Check, first_broken, class_by_class, Exactly, Verdict, refusal_at}

-- a verdict is one or the other, and not both
pub not_both : {v : Verdict} {n : Refusal} {p : ℕ} → v ≡ Ok tt → v ≡ Err (refusal_at n p) → ⊥
not_both {v} {n} {p} a b = let z : ◌≡◌ {A = ℕ} 0 1 = cc in omega arith

-- equal verdicts refuse the same
abbrev refused_in : Refused → Verdict → Refused
refused_in d (Ok _) = d
refused_in d (Err e) = e

pub same_refusal : {e f : Refused} → ◌≡◌ {A = Verdict} (Err e) (Err f) → e ≡ f
same_refusal {e} {f} q = ap (refused_in e) q

pub refused_or_passed : (v : Verdict) → (v ≡ Ok tt) ⊎ ((n : Refusal) × (p : ℕ) × (v ≡ Err (refusal_at n p)))
refused_or_passed (Ok _) = inl refl
refused_or_passed (Err e) = inr (e.0, e.1, refl)

-- a check that is not broken is passed over; a broken one decides
pub pass_over : (c : Check) (cs : List Check) → c.broken ≡ false → first_broken (c ∷ cs) ≡ first_broken cs
unfolding first_broken
pass_over c cs e = rw e

pub decides : (c : Check) (cs : List Check) → c.broken ≡ true → first_broken (c ∷ cs) ≡ Err (refusal_at c.refusal c.place)
unfolding first_broken
decides c cs e = rw e

pub none_broken : first_broken [] ≡ Ok tt
unfolding first_broken
none_broken = refl

-- where all passed, so did the first check and the others
pub passed_parts : (c : Check) (cs : List Check) → first_broken (c ∷ cs) ≡ Ok tt → (c.broken ≡ false) × (first_broken cs ≡ Ok tt)
passed_parts c cs e = go c.broken refl
  where
    go : (b : Bool) → c.broken ≡ b → (c.broken ≡ false) × (first_broken cs ≡ Ok tt)
    go true h = absurd (not_both e (decides c cs h))
    go false h = (h, sym (pass_over c cs h) ∙ e)

-- one list of checks after another
pub after_passed : (xs ys : List Check) → first_broken xs ≡ Ok tt → first_broken (xs ++ ys) ≡ first_broken ys
after_passed [] ys e = refl
after_passed (c ∷ xs) ys e =
    let h = passed_parts c xs e in
    pass_over c (xs ++ ys) h.0 ∙ after_passed xs ys h.1

pub refused_before : (xs ys : List Check) {n : Refusal} {p : ℕ} → first_broken xs ≡ Err (refusal_at n p) → first_broken (xs ++ ys) ≡ Err (refusal_at n p)
refused_before [] ys e = absurd (not_both none_broken e)
refused_before (c ∷ xs) ys {n} {p} e = go c.broken refl (λ h. refused_before xs ys h)
  where
    go : (b : Bool) → c.broken ≡ b → (first_broken xs ≡ Err (refusal_at n p) → first_broken (xs ++ ys) ≡ Err (refusal_at n p))
        → first_broken (c ∷ xs ++ ys) ≡ Err (refusal_at n p)
    go true h ih = decides c (xs ++ ys) h ∙ sym (decides c xs h) ∙ e
    go false h ih = pass_over c (xs ++ ys) h ∙ ih (sym (pass_over c xs h) ∙ e)

pub passed_both : (xs ys : List Check) → first_broken (xs ++ ys) ≡ Ok tt → (first_broken xs ≡ Ok tt) × (first_broken ys ≡ Ok tt)
passed_both [] ys e = (none_broken, e)
passed_both (c ∷ xs) ys e =
    let h = passed_parts c (xs ++ ys) e in
    let r = passed_both xs ys h.1 in
    (pass_over c xs h.0 ∙ r.0, r.1)

-- the check that decides: broken, with no broken one before it
pub data FirstBroken : List Check → Refusal → ℕ → Type 0 where
  here : {c : Check} {cs : List Check} → c.broken ≡ true → FirstBroken (c ∷ cs) c.refusal c.place
  later : {c : Check} {cs : List Check} {n : Refusal} {p : ℕ} → c.broken ≡ false → FirstBroken cs n p → FirstBroken (c ∷ cs) n p

-- checks refuse with a number and a place exactly where the first broken one has them
pub refused_by_first : {cs : List Check} {n : Refusal} {p : ℕ} → FirstBroken cs n p → first_broken cs ≡ Err (refusal_at n p)
refused_by_first (here {c = c} {cs = cs} b) = decides c cs b
refused_by_first (later {c = c} {cs = cs} b f) = pass_over c cs b ∙ refused_by_first f

-- class by class
pub classes_passed : (f : ℕ → List Check) (n : ℕ) → ((i : ℕ) → 1 ≤ i → i ≤ n → first_broken (f i) ≡ Ok tt)
    → first_broken (class_by_class f n) ≡ Ok tt
unfolding class_by_class
classes_passed f zero h = none_broken
classes_passed f (suc n) h =
    after_passed (class_by_class f n) (f (suc n)) (classes_passed f n (λ i l u. h i l (omega arith))) ∙ h (suc n) (omega arith) (omega arith)

pub classes_refused : (f : ℕ → List Check) (n i : ℕ) {a : Refusal} {p : ℕ} → 1 ≤ i → i ≤ n → ((j : ℕ) → 1 ≤ j → j < i → first_broken (f j) ≡ Ok tt)
    → first_broken (f i) ≡ Err (refusal_at a p) → first_broken (class_by_class f n) ≡ Err (refusal_at a p)
unfolding class_by_class
classes_refused f zero i l u h e = absurd (omega arith)
classes_refused f (suc n) i {a} {p} l u h e = go (dec_le i n) (λ m. classes_refused f n i l m h e)
  where
    go : Dec (i ≤ n) → (i ≤ n → first_broken (class_by_class f n) ≡ Err (refusal_at a p)) → first_broken (class_by_class f n ++ f (suc n)) ≡ Err (refusal_at a p)
    go (yes m) ih = refused_before (class_by_class f n) (f (suc n)) (ih m)
    go (no m) ih =
        let s : i ≡ suc n = omega arith in
        after_passed (class_by_class f n) (f (suc n)) (classes_passed f n (λ j a b. h j a (omega arith))) ∙ (rw s at e)

-- what was passed class by class was passed at each class
pub classes_each : (f : ℕ → List Check) (n : ℕ) → first_broken (class_by_class f n) ≡ Ok tt → (i : ℕ) → 1 ≤ i → i ≤ n
    → first_broken (f i) ≡ Ok tt
unfolding class_by_class
classes_each f zero e i l u = absurd (omega arith)
classes_each f (suc n) e i l u = go (refused_or_passed (first_broken (class_by_class f n))) (dec_le i n) (λ h m. classes_each f n h i l m)
  where
    go : (first_broken (class_by_class f n) ≡ Ok tt) ⊎ ((a : Refusal) × (p : ℕ) × (first_broken (class_by_class f n) ≡ Err (refusal_at a p))) → Dec (i ≤ n)
        → (first_broken (class_by_class f n) ≡ Ok tt → i ≤ n → first_broken (f i) ≡ Ok tt) → first_broken (f i) ≡ Ok tt
    go (inl h) (yes m) ih = ih h m
    go (inl h) (no m) ih =
        let s : i ≡ suc n = omega arith in
        rw s (sym (after_passed (class_by_class f n) (f (suc n)) h) ∙ e)
    go (inr r) d ih = absurd (not_both e (refused_before (class_by_class f n) (f (suc n)) r.2))

-- and a refusal comes from one class, with every class below it passed
pub classes_which : (f : ℕ → List Check) (n : ℕ) {a : Refusal} {p : ℕ} → first_broken (class_by_class f n) ≡ Err (refusal_at a p)
    → (i : ℕ) × (1 ≤ i) × (i ≤ n) × ((j : ℕ) → 1 ≤ j → j < i → first_broken (f j) ≡ Ok tt) × (first_broken (f i) ≡ Err (refusal_at a p))
unfolding class_by_class
classes_which f zero e = absurd (not_both none_broken e)
classes_which f (suc n) {a} {p} e = go (refused_or_passed (first_broken (class_by_class f n))) (λ b q h. classes_which f n h)
  where
    go : (first_broken (class_by_class f n) ≡ Ok tt) ⊎ ((b : Refusal) × (q : ℕ) × (first_broken (class_by_class f n) ≡ Err (refusal_at b q)))
        → ((b : Refusal) (q : ℕ) → first_broken (class_by_class f n) ≡ Err (refusal_at b q)
        → (i : ℕ) × (1 ≤ i) × (i ≤ n) × ((j : ℕ) → 1 ≤ j → j < i → first_broken (f j) ≡ Ok tt) × (first_broken (f i) ≡ Err (refusal_at b q)))
        → (i : ℕ) × (1 ≤ i) × (i ≤ suc n) × ((j : ℕ) → 1 ≤ j → j < i → first_broken (f j) ≡ Ok tt) × (first_broken (f i) ≡ Err (refusal_at a p))
    go (inl h) ih = (
      suc n,
      omega arith,
      omega arith,
      λ j l u. classes_each f n h j l (omega arith),
      sym (after_passed (class_by_class f n) (f (suc n)) h) ∙ e,
    )
    go (inr r) ih =
        let w = ih r.0 r.1 r.2 in
        (w.0, w.1, omega arith, w.3, w.4 ∙ sym (refused_before (class_by_class f n) (f (suc n)) r.2) ∙ e)

-- the same checks at each class
pub classes_same : (f g : ℕ → List Check) (n : ℕ) → ((i : ℕ) → 1 ≤ i → i ≤ n → f i ≡ g i) → class_by_class f n ≡ class_by_class g n
unfolding class_by_class
classes_same f g zero h = refl
classes_same f g (suc n) h = ap₂ ◌++◌ (classes_same f g n (λ i l u. h i l (omega arith))) (h (suc n) (omega arith) (omega arith))

-- what holds of each class from 1 below i, and of i, holds of each below i + 1
pub upward_more : (P : ℕ → Type 0) (i : ℕ) → ((k : ℕ) → 1 ≤ k → k < i → P k) → P i → (k : ℕ) → 1 ≤ k → k < i + 1 → P k
upward_more P i below at_i k l u = go (dec_le i k)
  where
    go : Dec (i ≤ k) → P k
    go (yes h) =
        let e : k ≡ i = omega arith in
        rw e at_i
    go (no h) = below k l (omega arith)

-- a test is true or false, and not both
pub not_true_and_false : {b : Bool} → b ≡ true → b ≡ false → ⊥
not_true_and_false p q = let z : ◌≡◌ {A = ℕ} 0 1 = cc in omega arith

-- a decision from what it says
pub exactly_yes : {P : Type 0} → P → Exactly true P
exactly_yes p = record { sound = λ e. p; complete = λ q. refl }

pub exactly_no : {P : Type 0} → (P → ⊥) → Exactly false P
exactly_no f = record { sound = λ e. absurd (not_true_and_false e refl); complete = λ p. absurd (f p) }

-- any two decisions of one claim are equal
pub exactly_unique : {a b : Bool} {P : Type 0} → Exactly a P → Exactly b P → a ≡ b
exactly_unique {a} {b} x y = go a b refl refl
  where
    go : (p q : Bool) → a ≡ p → b ≡ q → a ≡ b
    go true true e f = e ∙ sym f
    go true false e f = absurd (not_true_and_false (y.complete (x.sound e)) f)
    go false true e f = absurd (not_true_and_false (x.complete (y.sound f)) e)
    go false false e f = e ∙ sym f

-- a refusal comes from the first check, or from one after it
pub broken_or_later : (c : Check) (cs : List Check) {n : Refusal} {p : ℕ} → first_broken (c ∷ cs) ≡ Err (refusal_at n p)
    → ((c.broken ≡ true) × (refusal_at c.refusal c.place ≡ refusal_at n p)) ⊎ ((c.broken ≡ false) × (first_broken cs ≡ Err (refusal_at n p)))
broken_or_later c cs {n} {p} e = go c.broken refl
  where
    go : (b : Bool) → c.broken ≡ b → ((c.broken ≡ true) × (refusal_at c.refusal c.place ≡ refusal_at n p))
        ⊎ ((c.broken ≡ false) × (first_broken cs ≡ Err (refusal_at n p)))
    go true h = inl (h, same_refusal (sym (decides c cs h) ∙ e))
    go false h = inr (h, sym (pass_over c cs h) ∙ e)

-- a number tells its refusal: no two have the same (R4)
all_refusals : List Refusal
all_refusals = Cut ∷ UnknownKind ∷ TooMany ∷ BadParent ∷ BadWeight ∷ BadLongest ∷ TooHeavy ∷ Childless ∷ NoClass ∷ TooLong ∷ NotSound ∷ NoLeaf ∷ BadLength ∷ Full ∷ NothingWaits ∷ NoRoom ∷ BadRule ∷ LateRule ∷ Unpaired ∷ BadCapacity ∷ BadRequest ∷ NeedsMore ∷ []

pub with_number : ℕ → Refusal
with_number n = slice_index_or all_refusals (n - 1) Cut

-- one of the 22, or another number
pub told_by_number : (r : Refusal) → ((with_number (number r) ≡ r) × (1 ≤ number r) × (number r ≤ 22)) ⊎ ((u : Unlisted) × (r ≡ Other u))
unfolding with_number all_refusals
told_by_number Cut = inl (refl, omega arith, omega arith)
told_by_number UnknownKind = inl (refl, omega arith, omega arith)
told_by_number TooMany = inl (refl, omega arith, omega arith)
told_by_number BadParent = inl (refl, omega arith, omega arith)
told_by_number BadWeight = inl (refl, omega arith, omega arith)
told_by_number BadLongest = inl (refl, omega arith, omega arith)
told_by_number TooHeavy = inl (refl, omega arith, omega arith)
told_by_number Childless = inl (refl, omega arith, omega arith)
told_by_number NoClass = inl (refl, omega arith, omega arith)
told_by_number TooLong = inl (refl, omega arith, omega arith)
told_by_number NotSound = inl (refl, omega arith, omega arith)
told_by_number NoLeaf = inl (refl, omega arith, omega arith)
told_by_number BadLength = inl (refl, omega arith, omega arith)
told_by_number Full = inl (refl, omega arith, omega arith)
told_by_number NothingWaits = inl (refl, omega arith, omega arith)
told_by_number NoRoom = inl (refl, omega arith, omega arith)
told_by_number BadRule = inl (refl, omega arith, omega arith)
told_by_number LateRule = inl (refl, omega arith, omega arith)
told_by_number Unpaired = inl (refl, omega arith, omega arith)
told_by_number BadCapacity = inl (refl, omega arith, omega arith)
told_by_number BadRequest = inl (refl, omega arith, omega arith)
told_by_number NeedsMore = inl (refl, omega arith, omega arith)
told_by_number (Other u) = inr (u, refl)

-- a number with a fact that has one proof: what is made of both is told by the number
pub same_by_number : {P : ℕ → Type 0} {T : Type 0} (make : (n : ℕ) → P n → T) → ((n : ℕ) → IsProp (P n)) → {n m : ℕ} → n ≡ m → (h : P n) (k : P m)
    → make n h ≡ make m k
same_by_number make once {n} {m} e = rw e (λ h k. ap (make m) (once m h k))

same_unlisted : {u v : Unlisted} → u.number ≡ v.number → u ≡ v
same_unlisted {u} {v} e =
    same_by_number {P = beyond-type} {T = Unlisted} (λ n h. record { number = n; beyond = h }) (λ n. hlevel le_prop) e u.beyond v.beyond

pub one_number : {r s : Refusal} → number r ≡ number s → r ≡ s
one_number {r} {s} e = go (told_by_number r) (told_by_number s)
  where
    Told : Refusal → Type 0
    Told r = ((with_number (number r) ≡ r) × (1 ≤ number r) × (number r ≤ 22)) ⊎ ((u : Unlisted) × (r ≡ Other u))

    go : Told r → Told s → r ≡ s
    go (inl a) (inl b) = sym a.0 ∙ ap with_number e ∙ b.0
    go (inl a) (inr b) =
        let n : number r ≡ b.0.number = e ∙ ap number b.1 in
        let beyond = b.0.beyond (omega arith) in
        absurd (omega arith)
    go (inr a) (inl b) =
        let n : number s ≡ a.0.number = sym e ∙ ap number a.1 in
        let beyond = a.0.beyond (omega arith) in
        absurd (omega arith)
    go (inr a) (inr b) = a.1 ∙ ap Other (same_unlisted (sym (ap number a.1) ∙ e ∙ ap number b.1)) ∙ sym b.1

-- Laws of sums and searches over the classes 1 to n.
use mathlib.Core.Bool.{Bool, true, false, ◌||◌, or-true}
use mathlib.Core.Path.{◌≡◌, refl, sym, ap, ap₂, ◌∙◌}
use Prim.Native.Nat.{ℕ, zero, suc, ◌+◌, ◌-◌, ◌*◌, ◌≤◌, ◌<◌, zero-le}
use native.Mathlib.Nat.{suc-mul, zero-mul, add-mul}
use native.Mathlib.Decide.{dec_le, ℕ_discrete}
use native.Mathlib.Omega.{arith}
use Rattle.checks.proofs.Laws.{not_true_and_false}
use Rattle.tree.specs.Sum.{sum_to, some_to}

pub sum_none : (f : ℕ → ℕ) → sum_to f 0 ≡ 0
unfolding sum_to
sum_none f = refl

pub sum_last : (f : ℕ → ℕ) (n : ℕ) → sum_to f (suc n) ≡ sum_to f n + f (suc n)
unfolding sum_to
sum_last f n = refl

-- a loop's step: class i is added to the classes below it
pub sum_step : (f : ℕ → ℕ) (i : ℕ) → 1 ≤ i → sum_to f (i + 1 - 1) ≡ sum_to f (i - 1) + f i
sum_step f zero h = absurd (omega arith)
sum_step f (suc i) h =
    let e : suc i + 1 - 1 ≡ suc i = omega arith in
    let e' : suc i - 1 ≡ i = omega arith in
    rw (e, e') (sum_last f i)

-- a sum of n terms, none above m
pub sum_bound : (f : ℕ → ℕ) (m n : ℕ) → ((i : ℕ) → 1 ≤ i → i ≤ n → f i ≤ m) → sum_to f n ≤ n * m
unfolding sum_to
sum_bound f m zero h = zero-le
sum_bound f m (suc n) h = go (sum_bound f m n (λ i l u. h i l (omega arith)))
  where
    open_suc : suc n * m ≡ n * m + m
    open_suc = suc-mul n m

    go : sum_to f n ≤ n * m → sum_to f n + f (suc n) ≤ suc n * m
    go ih = omega (arith, open_suc, h (suc n) (omega arith) (omega arith))

-- a sum of nothing but zeros
pub sum_zero : (f : ℕ → ℕ) (n : ℕ) → ((i : ℕ) → 1 ≤ i → i ≤ n → f i ≡ 0) → sum_to f n ≡ 0
unfolding sum_to
sum_zero f zero h = refl
sum_zero f (suc n) h = omega (arith, sum_zero f n (λ i l u. h i l (omega arith)), h (suc n) (omega arith) (omega arith))

-- sums of the same terms
pub sum_same : (f g : ℕ → ℕ) (n : ℕ) → ((k : ℕ) → 1 ≤ k → k ≤ n → f k ≡ g k) → sum_to f n ≡ sum_to g n
unfolding sum_to
sum_same f g zero h = refl
sum_same f g (suc n) h = ap₂ ◌+◌ (sum_same f g n (λ k l u. h k l (omega arith))) (h (suc n) (omega arith) (omega arith))

-- sums that differ in one term
pub sum_change : (f g : ℕ → ℕ) (n i : ℕ) → 1 ≤ i → i ≤ n → ((k : ℕ) → (k ≡ i → ⊥) → f k ≡ g k) → sum_to g n + f i ≡ sum_to f n + g i
unfolding sum_to
sum_change f g zero i l u h = absurd (omega arith)
sum_change f g (suc n) i l u h = go (ℕ_discrete (suc n) i) (λ v. sum_change f g n i l v h)
  where
    go : Dec (suc n ≡ i) → (i ≤ n → sum_to g n + f i ≡ sum_to f n + g i) → sum_to g n + g (suc n) + f i ≡ sum_to f n + f (suc n) + g i
    go (yes e) ih = rw e (omega (arith, sum_same f g n (λ k a b. h k (λ z. omega arith))))
    go (no e) ih = omega (arith, ih (omega arith), h (suc n) e)

-- sums compared term by term
pub sum_within : (f g : ℕ → ℕ) (n : ℕ) → ((i : ℕ) → 1 ≤ i → i ≤ n → f i ≤ g i) → sum_to f n ≤ sum_to g n
unfolding sum_to
sum_within f g zero h = zero-le
sum_within f g (suc n) h = omega (arith, sum_within f g n (λ i l u. h i l (omega arith)), h (suc n) (omega arith) (omega arith))

-- a sum goes no further than its last term that is not 0
pub sum_longer : (f : ℕ → ℕ) (n m : ℕ) → n ≤ m → ((k : ℕ) → n < k → k ≤ m → f k ≡ 0) → sum_to f m ≡ sum_to f n
unfolding sum_to
sum_longer f n zero l none =
    let e : n ≡ 0 = omega arith in
    rw e
sum_longer f n (suc m) l none = go (dec_le n m) (λ h. sum_longer f n m h (λ k a b. none k a (omega arith)))
  where
    go : Dec (n ≤ m) → (n ≤ m → sum_to f m ≡ sum_to f n) → sum_to f m + f (suc m) ≡ sum_to f n
    go (yes h) ih = omega (arith, ih h, none (suc m) (omega arith) (omega arith))
    go (no h) ih =
        let e : n ≡ suc m = omega arith in
        rw (e, sum_to)

-- a sum is at least each of its terms
pub sum_part : (f : ℕ → ℕ) (n i : ℕ) → 1 ≤ i → i ≤ n → f i ≤ sum_to f n
unfolding sum_to
sum_part f zero i l u = absurd (omega arith)
sum_part f (suc n) i l u = go (dec_le i n) (λ m. sum_part f n i l m)
  where
    go : Dec (i ≤ n) → (i ≤ n → f i ≤ sum_to f n) → f i ≤ sum_to f n + f (suc n)
    go (yes m) ih = omega (arith, ih m)
    go (no m) ih =
        let e : i ≡ suc n = omega arith in
        rw e (omega arith)

-- a sum of sums
pub sum_add : (f g : ℕ → ℕ) (n : ℕ) → sum_to (λ k. f k + g k) n ≡ sum_to f n + sum_to g n
unfolding sum_to
sum_add f g zero = refl
sum_add f g (suc n) = omega (arith, sum_add f g n)

-- a sum with one term that is not 0
pub sum_one : (g : ℕ → ℕ) (n i : ℕ) → 1 ≤ i → i ≤ n → ((k : ℕ) → 1 ≤ k → k ≤ n → (k ≡ i → ⊥) → g k ≡ 0) → sum_to g n ≡ g i
unfolding sum_to
sum_one g zero i l u none = absurd (omega arith)
sum_one g (suc n) i l u none = go (ℕ_discrete (suc n) i) (λ v. sum_one g n i l v (λ k a b ne. none k a (omega arith) ne))
  where
    go : Dec (suc n ≡ i) → (i ≤ n → sum_to g n ≡ g i) → sum_to g n + g (suc n) ≡ g i
    go (yes e) ih = rw e (omega (arith, sum_zero g n (λ k a b. none k a (omega arith) (λ z. omega arith))))
    go (no e) ih = omega (arith, ih (omega arith), none (suc n) (omega arith) (omega arith) e)

-- a sum of sums, in either order
pub sum_swap : (f : ℕ → ℕ → ℕ) (m n : ℕ) → sum_to (λ i. sum_to (f i) n) m ≡ sum_to (λ j. sum_to (λ i. f i j) m) n
unfolding sum_to
sum_swap f zero n = sym (sum_zero (λ j. 0) n (λ k a b. refl))
sum_swap f (suc m) n = omega (arith, sum_swap f m n, sum_add (λ j. sum_to (λ i. f i j) m) (f (suc m)) n)

-- a sum of multiples
pub sum_times : (f : ℕ → ℕ) (c n : ℕ) → sum_to (λ i. f i * c) n ≡ sum_to f n * c
unfolding sum_to
sum_times f c zero = sym (zero-mul c)
sum_times f c (suc n) = omega (arith, sum_times f c n, add-mul (sum_to f n) (f (suc n)) c)

-- fewer terms add to no more
pub sum_grows : (f : ℕ → ℕ) (n m : ℕ) → n ≤ m → sum_to f n ≤ sum_to f m
unfolding sum_to
sum_grows f n zero h =
    let e : n ≡ 0 = omega arith in
    rw e (omega arith)
sum_grows f n (suc m) h = go (dec_le n m) (λ u. sum_grows f n m u)
  where
    go : Dec (n ≤ m) → (n ≤ m → sum_to f n ≤ sum_to f m) → sum_to f n ≤ sum_to f m + f (suc m)
    go (yes u) ih = omega (arith, ih u)
    go (no u) ih =
        let e : n ≡ suc m = omega arith in
        rw (e, sum_to) (omega arith)

-- a loop's step downward: class i is added to the classes above it
pub sum_above_lem : (f : ℕ → ℕ) (n i : ℕ) → 1 ≤ i → i ≤ n → sum_to f n - sum_to f (i - 1) ≡ (sum_to f n - sum_to f i) + f i
sum_above_lem f n i l u =
    let e : i + 1 - 1 ≡ i = omega arith in
    omega (arith, rw e at (sum_step f i l), sum_grows f i n u)

-- what comes after term i, none of it above m
pub sum_rest : (f : ℕ → ℕ) (m n i : ℕ) → i ≤ n → ((k : ℕ) → i < k → k ≤ n → f k ≤ m) → sum_to f n ≤ sum_to f i + n * m
unfolding sum_to
sum_rest f m zero i u h =
    let e : i ≡ 0 = omega arith in
    rw e (omega arith)
sum_rest f m (suc n) i u h = go (dec_le i n) (λ v. sum_rest f m n i v (λ k a b. h k a (omega arith)))
  where
    open_suc : suc n * m ≡ n * m + m
    open_suc = suc-mul n m

    go : Dec (i ≤ n) → (i ≤ n → sum_to f n ≤ sum_to f i + n * m) → sum_to f n + f (suc n) ≤ sum_to f i + suc n * m
    go (yes v) ih = omega (arith, ih v, open_suc, h (suc n) (omega arith) (omega arith))
    go (no v) ih =
        let e : i ≡ suc n = omega arith in
        rw (e, sum_to) (omega arith)

pub some_none : (f : ℕ → Bool) → some_to f 0 ≡ false
unfolding some_to
some_none f = refl

pub some_step : (f : ℕ → Bool) (i : ℕ) → 1 ≤ i → some_to f (i + 1 - 1) ≡ (some_to f (i - 1) || f i)
unfolding some_to
some_step f zero h = absurd (omega arith)
some_step f (suc i) h =
    let e : suc i + 1 - 1 ≡ suc i = omega arith in
    let e' : suc i - 1 ≡ i = omega arith in
    rw (e, e')

-- one that is found is enough
pub some_found : (f : ℕ → Bool) (n i : ℕ) → 1 ≤ i → i ≤ n → f i ≡ true → some_to f n ≡ true
unfolding some_to
some_found f zero i l u e = absurd (omega arith)
some_found f (suc n) i l u e = go (dec_le i n) (λ m. some_found f n i l m e)
  where
    go : Dec (i ≤ n) → (i ≤ n → some_to f n ≡ true) → (some_to f n || f (suc n)) ≡ true
    go (yes m) ih = rw (ih m)
    go (no m) ih =
        let s : suc n ≡ i = omega arith in
        rw (s, e) (or-true (some_to f n))

-- and one that holds was found
pub some_which : (f : ℕ → Bool) (n : ℕ) → some_to f n ≡ true → (i : ℕ) × (1 ≤ i) × (i ≤ n) × (f i ≡ true)
unfolding some_to
some_which f zero e = absurd (let z : ◌≡◌ {A = ℕ} 0 1 = cc in omega arith)
some_which f (suc n) e = go (some_to f n) refl (λ h. some_which f n h)
  where
    go : (b : Bool) → some_to f n ≡ b → (some_to f n ≡ true → (i : ℕ) × (1 ≤ i) × (i ≤ n) × (f i ≡ true)) → (i : ℕ) × (1 ≤ i) × (i ≤ suc n)
        × (f i ≡ true)
    go true h ih =
        let w = ih h in
        (w.0, w.1, omega arith, w.3)
    go false h ih = (suc n, omega arith, omega arith, rw h at e)

-- no class has it, none of one more, and then none of all
pub none_more : (f : ℕ → Bool) (i : ℕ) → ((k : ℕ) → 1 ≤ k → k < i → f k ≡ false) → f i ≡ false
    → (k : ℕ) → 1 ≤ k → k < i + 1 → f k ≡ false
none_more f i before e k l h = go (ℕ_discrete k i)
  where
    go : Dec (k ≡ i) → f k ≡ false
    go (yes same) = ap f same ∙ e
    go (no ne) = before k l (omega (arith, h, ne))

pub some_never : (f : ℕ → Bool) (n : ℕ) → ((k : ℕ) → 1 ≤ k → k ≤ n → f k ≡ false) → some_to f n ≡ false
some_never f n none = go (some_to f n) refl
  where
    go : (b : Bool) → some_to f n ≡ b → some_to f n ≡ false
    go false e = e
    go true e =
        let w = some_which f n e in
        absurd (not_true_and_false w.3 (none w.0 w.1 w.2))

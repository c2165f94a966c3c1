-- Laws of a table, the values of a function at 0, 1, .. n - 1. Demand 2.
use mathlib.Core.List.{List, [], ◌∷◌, ◌++◌}
use mathlib.Core.Path.{◌≡◌, refl, sym, ap, ap₂, ◌∙◌}
use Prim.Native.Nat.{ℕ, zero, suc, ◌+◌, ◌-◌, ◌<◌}
use native.Mathlib.Decide.{dec_lt, ℕ_discrete}
use native.Mathlib.Numerals.{add-one}
use native.Mathlib.Omega.{arith}
use lib.ListN.{length, get_or, set, drop, replicate, length-append, length-set, get_or-append}
use lib.Seq.{get_or_at, set_at, append_snoc, drop-cons, get_or-set_same, get_or-set_other, ext_get_or}
use Rattle.tree.specs.Sum.{table}

module _ {A : Type 0} where
  pub table_none : (f : ℕ → A) → table f 0 ≡ []
  unfolding table
  table_none f = refl

  pub table_last : (f : ℕ → A) (n : ℕ) → table f (suc n) ≡ table f n ++ (f n ∷ [])
  unfolding table
  table_last f n = refl

  pub table_length : (f : ℕ → A) (n : ℕ) → length (table f n) ≡ n
  unfolding table
  table_length f zero = refl
  table_length f (suc n) = length-append (table f n) (f n ∷ []) ∙ omega (arith, table_length f n)

  pub table_at : (f : ℕ → A) (d : A) (n i : ℕ) → i < n → get_or (table f n) i d ≡ f i
  unfolding table
  table_at f d zero i h = absurd (omega arith)
  table_at f d (suc n) i h = go (dec_lt i n) (λ m. table_at f d n i m)
    where
      go : Dec (i < n) → (i < n → get_or (table f n) i d ≡ f i) → get_or (table f n ++ (f n ∷ [])) i d ≡ f i
      go (yes m) ih = get_or-append (table f n) (f n ∷ []) d i (rw table_length m) ∙ ih m
      go (no m) ih =
          let e : i ≡ n = omega arith in
          rw e (get_or_at (table f n) (f n) [] d n (table_length f n))

  -- the same values give the same table
  pub table_same : (f g : ℕ → A) (n : ℕ) → ((i : ℕ) → i < n → f i ≡ g i) → table f n ≡ table g n
  unfolding table
  table_same f g zero h = refl
  table_same f g (suc n) h =
      ap₂ (λ (xs : List A) (x : A). xs ++ (x ∷ [])) (table_same f g n (λ i m. h i (omega arith))) (h n (omega arith))

  -- the first value, and the others behind it
  pub table_first : (f : ℕ → A) (n : ℕ) → table f (suc n) ≡ f 0 ∷ table (λ j. f (suc j)) n
  unfolding table
  table_first f zero = refl
  table_first f (suc n) = ap (λ (xs : List A). xs ++ (f (suc n) ∷ [])) (table_first f n)

  -- one other value is one store
  pub table_set : (f g : ℕ → A) (n i : ℕ) (x : A) → i < n → g i ≡ x → ((k : ℕ) → (k ≡ i → ⊥) → g k ≡ f k)
      → table g n ≡ set (table f n) i x
  table_set f g n i x h same other =
      ext_get_or x (table g n) (set (table f n) i x)
      (table_length g n ∙ sym (length-set (table f n) i x ∙ table_length f n))
      (λ k m. at k (rw table_length at m) (ℕ_discrete k i))
    where
      at : (k : ℕ) → k < n → Dec (k ≡ i) → get_or (table g n) k x ≡ get_or (set (table f n) i x) k x
      at k m (yes e) =
          rw e
          (table_at g x n i h ∙ same ∙ sym (get_or-set_same (table f n) i x x (rw table_length h)))
      at k m (no ne) =
          table_at g x n k m ∙ other k ne ∙ sym (get_or-set_other (table f n) i k x x ne ∙ table_at f x n k m)

  -- a table filled in place, one entry a turn, over what the places held before
  pub table_fill : (f : ℕ → A) (d : A) (m n : ℕ) → n < m
      → set (table f n ++ replicate (m - n) d) n (f n) ≡ table f (n + 1) ++ replicate (m - (n + 1)) d
  unfolding table
  table_fill f d m n h =
      let e : m - n ≡ suc (m - (n + 1)) = omega arith in
      rw (e, set_at (table f n) d (replicate (m - (n + 1)) d) (f n) n (table_length f n), add-one n)
      (sym (append_snoc (table f n) (f n) (replicate (m - suc n) d)))

  pub table_front : (f : ℕ → A) (d : A) (m n i : ℕ) → i < n → get_or (table f n ++ replicate (m - n) d) i d ≡ f i
  table_front f d m n i h =
      get_or-append (table f n) (replicate (m - n) d) d i (rw (table_length f n) h) ∙ table_at f d n i h

  -- the same over the rest of a list
  pub table_over : (f : ℕ → A) (d : A) (xs : List A) (n : ℕ) → n < length xs
      → set (table f n ++ drop n xs) n (f n) ≡ table f (n + 1) ++ drop (n + 1) xs
  unfolding table
  table_over f d xs n h =
      rw (drop-cons xs n d h, set_at (table f n) (get_or xs n d) (drop (suc n) xs) (f n) n (table_length f n), add-one n)
      (sym (append_snoc (table f n) (f n) (drop (suc n) xs)))

  pub table_behind : (f : ℕ → A) (d : A) (xs : List A) (n : ℕ) → n < length xs → get_or (table f n ++ drop n xs) n d ≡ get_or xs n d
  table_behind f d xs n h = rw (drop-cons xs n d h) (get_or_at (table f n) (get_or xs n d) (drop (suc n) xs) d n (table_length f n))

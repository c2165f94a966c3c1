-- Which words are taken (R175, R177): the digits of a number read back give it, leading zeros count for nothing, and CLASS=REQUEST
-- is digits, one `=` and digits, nothing else.
use mathlib.Core.Bool.{Bool, true, false, ◌&&◌, cond}
use mathlib.Core.List.{List, [], ◌∷◌, ◌++◌}
use mathlib.Core.Path.{◌≡◌, refl, sym, ap, ap₂, subst, ◌∙◌}
use Prim.Native.Nat.{ℕ, suc, ◌+◌, ◌-◌, ◌*◌, ◌^◌, ◌≤◌, ◌<◌}
use native.Mathlib.Decide.{dec_lt}
use native.Mathlib.Numerals.{add-one}
use native.Mathlib.Omega.{arith}
use borrow.Author.Tests.{eqb-true, leb-true, le-leb, lt-ltb, ne_eqb}
use lib.Dec.{eqb, leb}
use lib.ListN.{length, take, drop, get_or}
use lib.Seq.{split_at, take-append_seam, drop-append-add}
use Rattle.digits.specs.Decimal.{decimal}
use Rattle.digits.proofs.Decimals.{AllDigits, value, decimal_digits, decimal_value, decimal_zero, decimal_leading}
use Rattle.std.specs.Prelude.{Option, Some, None}
use Rattle.words.specs.Word.{is_digit, all_digits, value_of, word_number, index_after, index_of, asks, pair_of}
use Rattle.words.proofs.Reading.{and_after, digit_in, first_digit}
use Rattle.words.proofs.Pairs.{pair_none}

-- digits of a value below 2 to the power 64 are that number
pub is_number : (text : List ℕ) → 0 < length text → all_digits text ≡ true → value_of text < 2 ^ 64 → word_number text ≡ Some (value_of text)
unfolding word_number
is_number [] some all fits = absurd (omega arith)
is_number (b ∷ bs) some all fits = rw (all, lt-ltb (value_of (b ∷ bs)) (2 ^ 64) fits)

-- a leading zero counts for nothing
pub zero_before : (text : List ℕ) → 0 < length text → word_number (48 ∷ text) ≡ word_number text
unfolding word_number
zero_before [] some = absurd (omega arith)
zero_before (b ∷ bs) some =
    let same : value_of (48 ∷ b ∷ bs) ≡ value_of (b ∷ bs) = omega arith in
    rw same

-- digits by their bounds
all_digits_lem : (ds : List ℕ) → AllDigits ds → all_digits ds ≡ true
all_digits_lem [] all = refl
all_digits_lem (d ∷ ds) all = rw (digit_in d all.0 all.1) (all_digits_lem ds all.2)

-- both ways of adding up digits agree
same_value : (n : ℕ) (ds : List ℕ) → value n ds ≡ and_after n ds
same_value n [] = omega arith
same_value n (d ∷ ds) = same_value (n * 10 + (d - 48)) ds ∙ first_digit n d ds

value_back : (n : ℕ) → value_of (decimal n) ≡ n
value_back n = omega (arith, same_value 0 (decimal n), decimal_value n)

some_digit : (n : ℕ) → 0 < length (decimal n)
some_digit n = go (dec_lt 0 n)
  where
    go : Dec (0 < n) → 0 < length (decimal n)
    go (yes h) = (decimal_leading n h).0
    go (no h) =
        let none : n ≡ 0 = omega arith in
        subst (λ (ds : List ℕ). 0 < length ds) (sym (ap decimal none ∙ decimal_zero)) (omega arith)

-- the digits of a number read back give it
pub digits_back : (n : ℕ) → n < 2 ^ 64 → word_number (decimal n) ≡ Some n
digits_back n h =
    is_number (decimal n) (some_digit n) (all_digits_lem (decimal n) (decimal_digits n)) (omega (arith, value_back n))
    ∙ ap Some (value_back n)

-- both parts of a test that holds
both_hold : (a b : Bool) → (a && b) ≡ true → (a ≡ true) × (b ≡ true)
both_hold true b h = (refl, h)
both_hold false b h = (h, absurd (not_so h))
  where
    not_so : false ≡ true → ⊥
    not_so e = let z : ◌≡◌ {A = ℕ} 0 1 = cc in omega arith

-- a digit is no `=`
digit_other : (d : ℕ) → is_digit d ≡ true → d ≡ 61 → ⊥
digit_other d h e = omega (arith, leb-true d 57 (both_hold (leb 48 d) (leb d 57) h).1)

-- the first `=` after digits
after_digits : (cs rs : List ℕ) → all_digits cs ≡ true → index_of 61 (cs ++ 61 ∷ rs) ≡ length cs
unfolding index_of index_after
after_digits [] rs all = refl
after_digits (d ∷ cs) rs all =
    let parts = both_hold (is_digit d) (all_digits cs) all in
    ap (λ (t : Bool). index_after t (index_of 61 (cs ++ 61 ∷ rs))) (ne_eqb d 61 (digit_other d parts.0))
    ∙ ap suc (after_digits cs rs parts.1)

-- digits, `=` and any bytes are read as two numbers
pub pair_laid : (cs rs : List ℕ) → all_digits cs ≡ true → pair_of (cs ++ 61 ∷ rs) ≡ asks (word_number cs) (word_number rs)
unfolding pair_of
pair_laid cs rs all =
    let at : index_of 61 (cs ++ 61 ∷ rs) ≡ length cs = after_digits cs rs all in
    ap (λ (k : ℕ). asks (word_number (take k (cs ++ 61 ∷ rs))) (word_number (drop (k + 1) (cs ++ 61 ∷ rs)))) at
    ∙ ap₂ (λ (x y : List ℕ). asks (word_number x) (word_number y)) (take-append_seam cs (61 ∷ rs)) (drop-append-add cs (61 ∷ rs) 1)

-- so a class and a request written in digits are read back
pub pair_back : (c r : ℕ) → c ≤ 63 → r < 2 ^ 64 → pair_of (decimal c ++ 61 ∷ decimal r) ≡ Some (c, r)
pair_back c r few fits =
    pair_laid (decimal c) (decimal r) (all_digits_lem (decimal c) (decimal_digits c))
    ∙ ap₂ asks (digits_back c (omega arith)) (digits_back r fits)
    ∙ rw (le-leb c 63 few)

-- where the first `=` stands, if there is one
equals_at : (text : List ℕ) → index_of 61 text < length text → get_or text (index_of 61 text) 0 ≡ 61
unfolding index_of index_after
equals_at [] h = absurd (omega arith)
equals_at (b ∷ bs) h = go (eqb b 61) refl (equals_at bs)
  where
    here : (t : Bool) → eqb b 61 ≡ t → index_of 61 (b ∷ bs) ≡ index_after t (index_of 61 bs)
    here t e = ap (λ (t : Bool). index_after t (index_of 61 bs)) e

    go : (t : Bool) → eqb b 61 ≡ t → (index_of 61 bs < length bs → get_or bs (index_of 61 bs) 0 ≡ 61)
        → get_or (b ∷ bs) (index_of 61 (b ∷ bs)) 0 ≡ 61
    go true e rest = ap (λ (k : ℕ). get_or (b ∷ bs) k 0) (here true e) ∙ eqb-true b 61 e
    go false e rest = ap (λ (k : ℕ). get_or (b ∷ bs) k 0) (here false e) ∙ rest (omega (arith, h, here false e))

-- it stands within the word, or at its end where there is none
equals_within : (text : List ℕ) → index_of 61 text ≤ length text
unfolding index_of index_after
equals_within [] = omega arith
equals_within (b ∷ bs) = go (eqb b 61) (equals_within bs)
  where
    go : (t : Bool) → index_of 61 bs ≤ length bs → index_after t (index_of 61 bs) ≤ suc (length bs)
    go true h = omega arith
    go false h = omega arith

-- what a word holds that is taken: a number of at most 63, `=`, and a number
pub record Written (text : List ℕ) (c r : ℕ) : Type 0 where
  pub class : List ℕ
  pub request : List ℕ
  pub laid : text ≡ class ++ 61 ∷ request
  pub number : word_number class ≡ Some c
  pub few : c ≤ 63
  pub asked : word_number request ≡ Some r

-- another word is no pair
not_taken : (c r : ℕ) → ◌≡◌ {A = Option (ℕ × ℕ)} None (Some (c, r)) → ⊥
not_taken c r e = let z : ◌≡◌ {A = ℕ} 0 1 = cc in omega arith

-- the pair that there is
abbrev pair_in : Option (ℕ × ℕ) → ℕ × ℕ
pair_in None = (0, 0)
pair_in (Some p) = p

-- two numbers that make a pair
asks_parts : (x y : Option ℕ) (c r : ℕ) → asks x y ≡ Some (c, r) → (x ≡ Some c) × (c ≤ 63) × (y ≡ Some r)
asks_parts None y c r e = absurd (not_taken c r e)
asks_parts (Some n) None c r e = absurd (not_taken c r e)
asks_parts (Some n) (Some m) c r e = go (leb n 63) refl e
  where
    go : (t : Bool) → leb n 63 ≡ t → ◌≡◌ {A = Option (ℕ × ℕ)} (cond t (Some (n, m)) None) (Some (c, r)) → (Some n ≡ Some c) × (c ≤ 63) × (Some m ≡ Some r)
    go true few s =
        let same : n ≡ c = ap (λ (p : Option (ℕ × ℕ)). (pair_in p).0) s in
        let asked : m ≡ r = ap (λ (p : Option (ℕ × ℕ)). (pair_in p).1) s in
        (ap Some same, omega (arith, leb-true n 63 few), ap Some asked)
    go false few s = absurd (not_taken c r s)

-- a word that is taken holds nothing else
pub pair_written : (text : List ℕ) (c r : ℕ) → pair_of text ≡ Some (c, r) → Written text c r
unfolding pair_of
pair_written text c r e = go (dec_lt (index_of 61 text) (length text))
  where
    k : ℕ
    k = index_of 61 text

    go : Dec (index_of 61 text < length text) → Written text c r
    go (yes within) =
        let parts = asks_parts (word_number (take k text)) (word_number (drop (k + 1) text)) c r e in
        record {
          class = take k text;
          request = drop (k + 1) text;
          laid = split_at text k 0 within ∙ ap₂ (λ (b n : ℕ). take k text ++ b ∷ drop n text) (equals_at text within) (sym (add-one k));
          number = parts.0;
          few = parts.1;
          asked = parts.2;
        }
    go (no past) = absurd (not_taken c r (pair_none text k refl (omega (arith, equals_within text)) ∙ e))

-- What the words ask (R176 to R181): a question is good exactly where every word is taken; class k requests what the last word that
-- names it asks, and the capacity where no word does; a word for a class that is no leaf changes nothing.
use mathlib.Core.Bool.{Bool, true, false, cond}
use mathlib.Core.List.{List, [], ◌∷◌}
use mathlib.Core.Path.{◌≡◌, refl, sym, ap, subst, ◌∙◌}
use Prim.Native.Nat.{ℕ, ◌<◌}
use native.Mathlib.Omega.{arith}
use borrow.Author.Tests.{eqb-true, eqb-false}
use lib.Dec.{eqb}
use lib.ListN.{length, get_or, length-set, length-replicate, get_or-replicate}
use lib.Seq.{get_or-set_same, get_or-set_other}
use Rattle.std.specs.Prelude.{Option, Some, None}
use Rattle.std.proofs.lemmas.Option.{none-some, same_Some}
use Rattle.tree.specs.declared.Tree.{Tree}
use Rattle.tree.specs.Class.{is_class, is_leaf}
use Rattle.allot.specs.declared.Allotted.{Allotted}
use Rattle.allot.specs.Request.{entry}
use Rattle.allot.specs.Answer.{Rates}
use Rattle.allot.proofs.OneAnswer.{only_leaves_read}
use Rattle.words.specs.Word.{word_number, pair_of}
use Rattle.asked.specs.declared.Asked.{Asked}
use Rattle.asked.specs.Asked.{begun, requested, heeded, heeded_all, begun_by, asked_by}

-- the test of a leaf is not both
not_good : false ≡ true → ⊥
not_good e = let z : ◌≡◌ {A = ℕ} 0 1 = cc in omega arith

-- a pair is taken
abbrev pub TakenPair : Option (ℕ × ℕ) → Type 0
TakenPair (Some (class, request)) = Unit
TakenPair None = ⊥

-- each word after the first is CLASS=REQUEST
abbrev pub AllTaken : List (List ℕ) → Type 0
AllTaken [] = Unit
AllTaken (word ∷ words) = TakenPair (pair_of word) × AllTaken words

-- a good question has taken each word
pub good_taken : (words : List (List ℕ)) (a b : Asked) → heeded_all (Some a) words ≡ Some b → AllTaken words
good_taken [] a b h = tt
good_taken (word ∷ words) a b h = go (pair_of word) (λ x. good_taken words x b) h
  where
    go : (p : Option (ℕ × ℕ)) → ((x : Asked) → heeded_all (Some x) words ≡ Some b → AllTaken words)
        → heeded_all (heeded (Some a) p) words ≡ Some b → TakenPair p × AllTaken words
    go (Some (class, request)) rest g = (tt, rest (requested a class request) g)
    go None rest g = absurd (none-some b g)

-- something is asked
pub record Good (q : Option Asked) : Type 0 where
  pub asked : Asked
  pub is : q ≡ Some asked

-- and where each word is taken it stays good
pub taken_good : (words : List (List ℕ)) (a : Asked) → AllTaken words → Good (heeded_all (Some a) words)
taken_good [] a all = record { asked = a; is = refl }
taken_good (word ∷ words) a all = go (pair_of word) (λ x. taken_good words x all.1) all.0
  where
    go : (p : Option (ℕ × ℕ)) → ((x : Asked) → Good (heeded_all (Some x) words)) → TakenPair p → Good (heeded_all (heeded (Some a) p) words)
    go (Some (class, request)) rest t = rest (requested a class request)
    go None rest t = absurd t

-- what class k requests after a word that names it, and after any other
abbrev pub request_after : ℕ → ℕ → Option (ℕ × ℕ) → ℕ
request_after k before (Some (class, request)) = cond (eqb class k) request before
request_after k before None = before

-- the last word that names it counts
abbrev pub last_request : ℕ → ℕ → List (List ℕ) → ℕ
last_request k before [] = before
last_request k before (word ∷ words) = last_request k (request_after k before (pair_of word)) words

-- one word more
entry_after : (a : Asked) (class request k : ℕ) → k < length a.requests
    → get_or (requested a class request).requests k 0 ≡ request_after k (get_or a.requests k 0) (Some (class, request))
entry_after a class request k few = go (eqb class k) refl
  where
    go : (t : Bool) → eqb class k ≡ t
        → get_or (requested a class request).requests k 0 ≡ cond (eqb class k) request (get_or a.requests k 0)
    go true e =
        let same : class ≡ k = eqb-true class k e in
        rw (e, same) (get_or-set_same a.requests k request 0 few)
    go false e = rw e (get_or-set_other a.requests class k request 0 (λ (s : k ≡ class). eqb-false class k e (sym s)))

-- the entry of class k after all words
pub entry_last : (words : List (List ℕ)) (a b : Asked) (k : ℕ) → k < length a.requests → heeded_all (Some a) words ≡ Some b
    → get_or b.requests k 0 ≡ last_request k (get_or a.requests k 0) words
entry_last [] a b k few h = ap (λ (x : Asked). get_or x.requests k 0) (sym (same_Some a b h))
entry_last (word ∷ words) a b k few h = go (pair_of word) (λ x long. entry_last words x b k long) h
  where
    go : (p : Option (ℕ × ℕ))
        → ((x : Asked) → k < length x.requests → heeded_all (Some x) words ≡ Some b
        → get_or b.requests k 0 ≡ last_request k (get_or x.requests k 0) words)
        → heeded_all (heeded (Some a) p) words ≡ Some b
        → get_or b.requests k 0 ≡ last_request k (request_after k (get_or a.requests k 0) p) words
    go (Some (class, request)) rest g =
        rest (requested a class request) (omega (arith, few, length-set a.requests class request)) g
        ∙ ap (λ (n : ℕ). last_request k n words) (entry_after a class request k few)
    go None rest g = absurd (none-some b g)

-- the capacity stays the first word's
same_capacity : (words : List (List ℕ)) (a b : Asked) → heeded_all (Some a) words ≡ Some b → b.capacity ≡ a.capacity
same_capacity [] a b h = ap (λ (x : Asked). x.capacity) (sym (same_Some a b h))
same_capacity (word ∷ words) a b h = go (pair_of word) (λ x. same_capacity words x b) h
  where
    go : (p : Option (ℕ × ℕ)) → ((x : Asked) → heeded_all (Some x) words ≡ Some b → b.capacity ≡ x.capacity)
        → heeded_all (heeded (Some a) p) words ≡ Some b → b.capacity ≡ a.capacity
    go (Some (class, request)) rest g = rest (requested a class request) g
    go None rest g = absurd (none-some b g)

-- a good question: its first word is the capacity, each other is CLASS=REQUEST, and class k requests what the last word that names it
-- asks, else the capacity
pub record GoodQuestion (word : List ℕ) (words : List (List ℕ)) (a : Asked) : Type 0 where
  pub number : word_number word ≡ Some a.capacity
  pub taken : AllTaken words
  pub entry : (k : ℕ) → k < 64 → get_or a.requests k 0 ≡ last_request k a.capacity words

pub good_question : (word : List ℕ) (words : List (List ℕ)) (b : Asked) → asked_by (word ∷ words) ≡ Some b → GoodQuestion word words b
good_question word words b good = go (word_number word) refl good
  where
    go : (n : Option ℕ) → word_number word ≡ n → heeded_all (begun_by n) words ≡ Some b → GoodQuestion word words b
    go (Some n) e g =
        let kept : b.capacity ≡ n = same_capacity words (begun n) b g in
        record {
          number = e ∙ ap Some (sym kept);
          taken = good_taken words (begun n) b g;
          entry = λ (k : ℕ) (few : k < 64).
              entry_last words (begun n) b k (omega (arith, few, length-replicate 64 n)) g
              ∙ ap (λ (m : ℕ). last_request k m words) (get_or-replicate 64 k n 0 few ∙ sym kept);
        }
    go None e g = absurd (none-some b g)

-- any words of that form are a good question
pub question_good : (word : List ℕ) (words : List (List ℕ)) (n : ℕ) → word_number word ≡ Some n → AllTaken words
    → Good (asked_by (word ∷ words))
question_good word words n e all =
    subst (λ (m : Option ℕ). Good (heeded_all (begun_by m) words)) (sym e) (taken_good words (begun n) all)

-- a word for a class that is no leaf is taken and changes nothing (R180)
pub no_leaf_word : (t : Tree) (capacity : ℕ) (asked : Asked) (class request : ℕ) (r s : Allotted) → is_leaf t class ≡ false
    → Rates t capacity asked.requests r
    → Rates t capacity (requested asked class request).requests s
    → r ≡ s
no_leaf_word t capacity asked class request r s none one other =
    only_leaves_read t capacity asked.requests (requested asked class request).requests r s (record { at = same }) one other
  where
    differ : (i : ℕ) → is_leaf t i ≡ true → i ≡ class → ⊥
    differ i leaf e = not_good (sym none ∙ ap (is_leaf t) (sym e) ∙ leaf)

    same : (i : ℕ) → is_class t i ≡ true → is_leaf t i ≡ true
        → entry asked.requests i ≡ entry (requested asked class request).requests i
    same i is leaf = sym (get_or-set_other asked.requests class i request 0 (differ i leaf))

-- What a planner asks, word by word (R176 to R181): the first word is the capacity, each other is CLASS=REQUEST. Nothing is asked by no
-- word, nor where a word is not taken (R181).
use Rattle.std.specs.Prelude.{List, [], ◌∷◌, ℕ, replicate, set, Option, Some, None}
use Rattle.words.specs.Word.{word_number, pair_of}
use Rattle.asked.specs.declared.Asked.{Asked}

-- the first word: the capacity, which each class requests that no word names (R176, R178)
abbrev pub begun : ℕ → Asked
begun n = record { capacity = n; requests = replicate 64 n }

abbrev pub begun_by : Option ℕ → Option Asked
begun_by (Some n) = Some (begun n)
begun_by None = None

-- each other word: a class and its request; a class named twice has the last (R179)
abbrev pub requested : Asked → ℕ → ℕ → Asked
requested asked class request = record { capacity = asked.capacity; requests = set asked.requests class request }

abbrev pub heeded : Option Asked → Option (ℕ × ℕ) → Option Asked
heeded None pair = None
heeded (Some asked) (Some (class, request)) = Some (requested asked class request)
heeded (Some asked) None = None

-- the words after the first, in order (R179)
abbrev pub heeded_all : Option Asked → List (List ℕ) → Option Asked
heeded_all None words = None
heeded_all (Some asked) [] = Some asked
heeded_all (Some asked) (word ∷ words) = heeded_all (heeded (Some asked) (pair_of word)) words

-- all the words (R176, R181)
abbrev pub asked_by : List (List ℕ) → Option Asked
asked_by [] = None
asked_by (word ∷ words) = heeded_all (begun_by (word_number word)) words

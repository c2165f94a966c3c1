-- CLASS=REQUEST (R177): the steps of reading it, and the words that are taken.
use mathlib.Core.List.{List}
use mathlib.Core.Path.{◌≡◌, refl, sym, ap, ◌∙◌}
use Prim.Native.Nat.{ℕ, ◌+◌}
use native.Mathlib.Omega.{arith}
use lib.ListN.{length, take, drop, length-drop}
use Rattle.std.specs.Prelude.{Option, Some, None}
use Rattle.words.specs.Word.{index_of, word_number, asks, pair_of}
use Rattle.words.proofs.Reading.{read_empty}

-- two numbers, the second of which is none
asks_none : (class : Option ℕ) → asks class None ≡ None
asks_none None = refl
asks_none (Some class) = refl

-- without `=` a word is no pair
pub pair_none : (text : List ℕ) (at : ℕ) → at ≡ index_of 61 text → at ≡ length text → None ≡ pair_of text
unfolding pair_of
pair_none text at e all =
    let k = index_of 61 text in
    let past : word_number (drop (k + 1) text) ≡ None = read_empty (drop (k + 1) text) (omega (arith, length-drop (k + 1) text)) in
    sym (ap (asks (word_number (take k text))) past ∙ asks_none (word_number (take k text)))

-- the two numbers around the first `=`
pub pair_around : (text : List ℕ) (at : ℕ) → at ≡ index_of 61 text
    → asks (word_number (take at text)) (word_number (drop (at + 1) text)) ≡ pair_of text
unfolding pair_of
pair_around text at e = ap (λ (k : ℕ). asks (word_number (take k text)) (word_number (drop (k + 1) text))) e

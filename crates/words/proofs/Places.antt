-- The place of the first such byte is where a search for it stops.
use Rattle.std.proofs.Common.{◌≡◌, ℕ, zero, suc, ◌<◌, ◌≤◌, List, [], ◌∷◌, Bool, true, false, length, get_or, MatchOption, ap, sym, ◌∙◌, arith, eqb}
use Rattle.std.proofs.lemmas.Bool.{eq-eqb, ne_eqb}
use Rattle.std.specs.Prelude.{Option, Some, None, unwrap_or}
use Rattle.std.specs.List.{HoldsAt, AllWithin}
use Rattle.words.specs.Word.{index_of, index_after}

-- no byte before the place is such a byte, and one stands there or nothing does
pub first_at : (byte : ℕ) (text : List ℕ) (at : ℕ) → at ≤ length text → ((k : ℕ) → k < at → get_or text k 0 ≡ byte → ⊥)
    → (at < length text → get_or text at 0 ≡ byte) → at ≡ index_of byte text
unfolding index_of index_after
first_at byte [] at low none there = omega arith
first_at byte (b ∷ bs) zero low none there =
    let e : eqb b byte ≡ true = eq-eqb b byte (there (omega arith)) in
    sym (ap (λ (t : Bool). index_after t (index_of byte bs)) e)
first_at byte (b ∷ bs) (suc at) low none there =
    let e : eqb b byte ≡ false = ne_eqb b byte (none zero (omega arith)) in
    ap suc (first_at byte bs at (omega arith) (λ k h. none (suc k) (omega arith)) (λ h. there (omega arith)))
    ∙ sym (ap (λ (t : Bool). index_after t (index_of byte bs)) e)

-- so the place where a search stops, or else the length, is the place of the first such byte
pub place_is : (byte : ℕ) (text : List ℕ) (found : Option ℕ)
    → MatchOption found (AllWithin (λ b. b ≡ byte → ⊥) text 0 (length text))
    (λ at. (at < length text) × HoldsAt (λ b. b ≡ byte) text at × AllWithin (λ b. b ≡ byte → ⊥) text 0 at)
    → unwrap_or found (length text) ≡ index_of byte text
place_is byte text None none = first_at byte text (length text) (omega arith) (λ k h. none k 0 (omega arith) h) (λ h. absurd (omega arith))
place_is byte text (Some at) h =
    first_at byte text at (omega (arith, h.0)) (λ k low. h.2 k 0 (omega arith) low) (λ _. h.1 0)

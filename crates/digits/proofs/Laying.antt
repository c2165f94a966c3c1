-- Texts laid over a buffer one after another: what the steps of laying a number or a line cite.
use mathlib.Core.List.{List, [], ◌∷◌, ◌++◌, append_assoc, append-nil}
use mathlib.Core.Path.{◌≡◌, refl, sym, ap, ap₂, ◌∙◌, subst}
use Prim.Native.Nat.{ℕ, suc, ◌+◌, ◌≤◌, ◌<◌}
use native.Mathlib.Nat.{zero-add, add-zero}
use native.Mathlib.Omega.{arith}
use lib.ListN.{length, take, drop, length-append, length-drop, take-append-drop, set}
use lib.Seq.{take_at, drop_at, drop-drop, length-take-le, paste, take-length, set_split, append_snoc}
use Rattle.digits.specs.Laid.{over, LaidAt}

-- the buffer up to a text's end
front : (at : ℕ) (t b : List ℕ) → at + length t ≤ length b → length (take at b ++ t) ≡ at + length t
front at t b h = length-append (take at b) t ∙ ap (λ (n : ℕ). n + length t) (length-take-le at b (omega arith))

-- a text laid is a copy of all its bytes
pub over_paste : (at : ℕ) (t b : List ℕ) → paste b at t (length t) ≡ over at t b
unfolding over
over_paste at t b = ap (λ (x : List ℕ). take at b ++ x ++ drop (at + length t) b) (take-length t)

-- no text changes nothing
pub over_none : (at : ℕ) (b : List ℕ) → over at [] b ≡ b
unfolding over
over_none at b = ap₂ (λ (x : List ℕ) (n : ℕ). x ++ drop n b) (append-nil (take at b)) (add-zero at) ∙ take-append-drop at b

-- one byte
pub laid_byte : (i x : ℕ) (b : List ℕ) → i < length b → LaidAt i (x ∷ []) b (i + 1) (set b i x)
unfolding over
laid_byte i x b h =
    let past : suc i ≡ i + 1 = omega arith in
    (refl, set_split b i x h ∙ sym (append_snoc (take i b) x (drop (suc i) b)) ∙ ap (λ (k : ℕ). take i b ++ (x ∷ []) ++ drop k b) past)

-- at the start the text comes first
pub over_start : (t b : List ℕ) → over 0 t b ≡ t ++ drop (length t) b
unfolding over
over_start t b = ap (λ (n : ℕ). t ++ drop n b) (zero-add (length t))

-- a text laid after another is both laid as one
over_over : (at : ℕ) (t u b : List ℕ) → at + length t ≤ length b → over (at + length t) u (over at t b) ≡ over at (t ++ u) b
unfolding over
over_over at t u b h =
    let n = at + length t in
    let x = take at b ++ t in
    let y = drop n b in
    let kept : take n (x ++ y) ≡ x = take_at x y n (front at t b h) in
    let both : n + length u ≡ at + length (t ++ u) = omega (arith, length-append t u) in
    let past : drop (length u) (drop n (x ++ y)) ≡ drop (length u) y = ap (drop (length u)) (drop_at x y n (front at t b h)) in
    let rest = sym (drop-drop (length u) n (x ++ y)) ∙ past ∙ drop-drop (length u) n b ∙ ap (λ (k : ℕ). drop k b) both in
    ap₂ (λ (p q : List ℕ). p ++ u ++ q) kept rest ∙ ap (λ (p : List ℕ). p ++ drop (at + length (t ++ u)) b) (append_assoc (take at b) t u)

-- steps one after another
pub laid_then : (at : ℕ) (t u b c d : List ℕ) (m r : ℕ) → at + length t ≤ length b → LaidAt at t b m c → LaidAt m u c r d
    → LaidAt at (t ++ u) b r d
laid_then at t u b c d m r h first next = (
  omega (arith, first.0, next.0, length-append t u),
  next.1 ∙ ap₂ (λ (k : ℕ) (x : List ℕ). over k u x) first.0 first.1 ∙ over_over at t u b h,
)

-- a text laid within a buffer leaves it as long as it was
pub laid_length : (at : ℕ) (t b d : List ℕ) (r : ℕ) → r ≤ length b → LaidAt at t b r d → length d ≡ length b
unfolding over
laid_length at t b d r h laid =
    let n = at + length t in
    let within : n ≤ length b = omega (arith, h, laid.0) in
    ap length laid.1 ∙ length-append (take at b ++ t) (drop n b) ∙ ap₂ ◌+◌ (front at t b within) (length-drop n b) ∙ omega arith

-- the same text, by another name
pub laid_same : (at : ℕ) (t u b d : List ℕ) (r : ℕ) → u ≡ t → LaidAt at t b r d → LaidAt at u b r d
laid_same at t u b d r e laid = subst (λ (x : List ℕ). LaidAt at x b r d) (sym e) laid

-- two texts that make up one
pub laid_as : (at : ℕ) (t u whole b c d : List ℕ) (m r : ℕ) → whole ≡ t ++ u → at + length t ≤ length b
    → LaidAt at t b m c → LaidAt m u c r d → LaidAt at whole b r d
laid_as at t u whole b c d m r e h first next = laid_same at (t ++ u) whole b d r e (laid_then at t u b c d m r h first next)

-- A part that ends its window's run ends with the line that `unended` leaves out (R243). Demand 1.
use mathlib.Core.Bool.{Bool, true, false}
use mathlib.Core.List.{List, ◌++◌}
use mathlib.Core.Path.{◌≡◌, refl, sym, ap, ap₂, subst, ◌∙◌}
use Prim.Native.Nat.{ℕ, suc, ◌-◌, ◌≤◌, ◌<◌}
use native.Mathlib.Omega.{arith}
use lib.ListN.{length, drop, length-append}
use Rattle.plan.specs.declared.event.Event.TheVariants.{Arrive, SendNext}
use Rattle.std.specs.Prelude.{Ok, Err, Some, None}
use Rattle.checks.proofs.Laws.{not_true_and_false}
use Rattle.plan.specs.Event.{event_at, EventRead}
use Rattle.state.specs.declared.Link.{Link}
use Rattle.lines.specs.Line.{bytes_of, line_room}
use Rattle.run.specs.Event.{last_line, event_gives, step_of}
use Rattle.run.proofs.Lines.{step_on}
use Rattle.parts.specs.declared.PartRun.{PartRun}
use Rattle.parts.specs.Part.{Partway, onward, takes_one, part_of, Parts}
use Rattle.parts.proofs.Parts.{starts, takes_keep, part_first, parts_on, part_one_answer}
use Rattle.stream.specs.Window.{last_bytes, unended, InWindow}

module _ (sound : Bool) (window : List ℕ) (room : ℕ) where
  -- the line that would end the run is within the text
  Within : Partway → Type 0
  Within p = p.more ≡ false → length (bytes_of (last_line (event_at (drop p.place window) p.place) p.link)) ≤ length p.text

  within_on : (p : Partway) → takes_one room p ≡ true → Within p → Within (onward sound window p)
  unfolding step_of Within
  within_on p e h ended = go (event_at (drop p.place window) p.place) refl ended
    where
      go : (e : EventRead) → event_at (drop p.place window) p.place ≡ e → (event_gives sound p.link p.place e).more ≡ false
          → let s = event_gives sound p.link p.place e in
          length (bytes_of (last_line (event_at (drop s.place window) s.place) s.link)) ≤ length (p.text ++ bytes_of s.line)
      go (Ok None) same f = rw same (omega (arith, length-append p.text (bytes_of (last_line (Ok None) p.link))))
      go (Ok (Some (Arrive a))) same f = absurd (not_true_and_false refl f)
      go (Ok (Some SendNext)) same f = absurd (not_true_and_false refl f)
      go (Err e) same f = rw same (omega (arith, length-append p.text (bytes_of (last_line (Err e) p.link))))

  part_within : (l : Link) (place : ℕ) → Within (part_of sound l window place room)
  unfolding Within
  part_within l place =
      subst Within (sym (part_first sound window room l place))
      (takes_keep sound window room Within within_on (suc (length window)) (starts l place) (λ f. absurd (not_true_and_false refl f)))

-- a part that ends its run has laid at least that line
pub last_laid : (l : Link) (window : List ℕ) (place : ℕ) (before : List ℕ) (r : PartRun) (after : List ℕ)
    → Parts l window place before r after → r.more ≡ false → length (last_bytes window r) ≤ r.laid
unfolding Within
last_laid l window place before r after p e =
    let q = part_of p.sound l window place (length before) in
    subst (λ (x : PartRun). x.more ≡ false → length (last_bytes window x) ≤ x.laid) (sym p.answer)
    (part_within p.sound window (length before) l place) e

-- where the run goes on, nothing is left out
pub unended_more : (window : List ℕ) (p : PartRun) → p.more ≡ true → p ≡ unended window p
unended_more window p e =
    let same : p.laid ≡ (unended window p).laid = rw e refl in
    ap (λ (n : ℕ). record { laid = n; more = p.more; link = p.link; place = p.place }) same

-- where it ends, its last line is
pub unended_last : (window : List ℕ) (p : PartRun) → p.more ≡ false → (n : ℕ) → n ≡ length (last_bytes window p)
    → record { laid = p.laid - n; more = false; link = p.link; place = p.place } ≡ unended window p
unended_last window p e n last =
    let same : p.laid - n ≡ (unended window p).laid = rw (e, last) refl in
    ap₂ (λ (k : ℕ) (b : Bool). record { laid = k; more = b; link = p.link; place = p.place }) same (sym e)

-- ---- where a part in a window ends

-- an event that ends the run leaves the place
last_place : (sound : Bool) (l : Link) (window : List ℕ) (place : ℕ) → (step_of sound l window place).more ≡ false
    → (step_of sound l window place).place ≡ place
unfolding step_of
last_place sound l window place m = go (event_at (drop place window) place) m
  where
    go : (e : EventRead) → (event_gives sound l place e).more ≡ false → (event_gives sound l place e).place ≡ place
    go (Ok None) f = refl
    go (Ok (Some (Arrive a))) f = absurd (not_true_and_false refl f)
    go (Ok (Some SendNext)) f = absurd (not_true_and_false refl f)
    go (Err _) f = refl

-- a part stays within the window
part_inside : (sound : Bool) (window : List ℕ) (room : ℕ) (l : Link) (place : ℕ) → place ≤ length window
    → (part_of sound l window place room).place ≤ length window
part_inside sound window room l place fits =
    subst Inside (sym (part_first sound window room l place))
    (takes_keep sound window room Inside inside_on (suc (length window)) (starts l place) fits)
  where
    Inside : Partway → Type 0
    Inside p = p.place ≤ length window

    inside_on : (p : Partway) → takes_one room p ≡ true → Inside p → Inside (onward sound window p)
    inside_on p e h = go (onward sound window p).more refl
      where
        go : (b : Bool) → (onward sound window p).more ≡ b → (onward sound window p).place ≤ length window
        go true m = (step_on p.link window p.place sound m).1
        go false m = rw (last_place sound p.link window p.place m) h

pub window_inside : (l : Link) (window : List ℕ) (place : ℕ) (before : List ℕ) (r : PartRun) (after : List ℕ)
    → InWindow l window place before r after → place ≤ length window → r.place ≤ length window
window_inside l window place before r after w fits =
    let p = w.parts in
    subst (λ (x : PartRun). x.place ≤ length window) (sym w.answer)
    (subst (λ (x : PartRun). x.place ≤ length window) (sym p.answer) (part_inside p.sound window (length before) l place fits))

-- and where the run goes on, it has moved on
pub window_on : (l : Link) (window : List ℕ) (place : ℕ) (before : List ℕ) (r : PartRun) (after : List ℕ)
    → InWindow l window place before r after → line_room ≤ length before → r.more ≡ true
    → (place < r.place) × (r.place ≤ length window)
window_on l window place before r after w room m =
    subst (λ (x : PartRun). (place < x.place) × (x.place ≤ length window)) (sym w.answer)
    (parts_on l window place before w.part after w.parts room (ap (λ (x : PartRun). x.more) (sym w.answer) ∙ m))

-- any two outcomes that the contract allows are equal
pub window_one_answer : (l : Link) (window : List ℕ) (place : ℕ) (before : List ℕ) (r r' : PartRun) (after after' : List ℕ)
    → InWindow l window place before r after → InWindow l window place before r' after' → (r ≡ r') × (after ≡ after')
window_one_answer l window place before r r' after after' x y =
    let q = part_one_answer l window place before x.part y.part after after' x.parts y.parts in
    (x.answer ∙ ap (unended window) q.0 ∙ sym y.answer, q.1)

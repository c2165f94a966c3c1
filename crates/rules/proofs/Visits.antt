-- Step 1 visit by visit (R135 to R137) finds the leaf that `next_leaf` names. Demand 2.
use mathlib.Core.Bool.{Bool, true, false}
use mathlib.Core.Path.{◌≡◌, refl, sym, ◌∙◌}
use Prim.Native.Nat.{ℕ, zero, suc, ◌+◌, ◌-◌, ◌≤◌, ◌<◌}
use native.Mathlib.Omega.{arith}
use lib.Dec.{ltb}
use borrow.Author.Tests.{ltb-true, ltb-false}
use Rattle.state.specs.State.{State}
use Rattle.rules.specs.Sending.{ready, first_from, next_leaf, active_leaf, covers, visits}
use Rattle.rules.proofs.Searches.{first_range, first_least, first_holds}
use Rattle.rules.proofs.Searching.{first_skip, first_hit, first_end, first_pass, ready_unset, ready_is}

-- a leaf is ready where it is active and its balance covers its first packet
not_active : (s : State) (k : ℕ) → active_leaf s k ≡ false → ready s k ≡ false
unfolding active_leaf
not_active s k e = ready_unset s k e

by_cover : (s : State) (k : ℕ) → active_leaf s k ≡ true → ready s k ≡ covers s k
unfolding active_leaf covers
by_cover s k e = ready_is s k e

-- one visit
visit : (n : ℕ) (s : State) (place : ℕ) → visits (suc n) s place
    ≡ elim (ltb (first_from (active_leaf s) (64 - place) place) 64) [
      | true ↦ elim (covers s (first_from (active_leaf s) (64 - place) place)) [
        | true ↦ first_from (active_leaf s) (64 - place) place
        | false ↦ visits n s (first_from (active_leaf s) (64 - place) place + 1)
      ]
      | false ↦ 64
    ]
unfolding visits
visit n s place = refl

-- as many visits as there are numbers from the place on are enough
visits_from_lem : (n : ℕ) (s : State) (place : ℕ) → place ≤ 64 → 64 - place ≤ n → visits n s place ≡ first_from (ready s) (64 - place) place
unfolding visits
visits_from_lem zero s place h few = sym (first_end (ready s) place (omega arith))
visits_from_lem (suc n) s place h few =
    visit n s place ∙ go (ltb i 64) refl (covers s i) refl (λ u. visits_from_lem n s (i + 1) (omega arith) (omega (arith, range.0)))
  where
    i : ℕ
    i = first_from (active_leaf s) (64 - place) place

    range : (place ≤ i) × (i ≤ place + (64 - place))
    range = first_range (active_leaf s) (64 - place) place

    -- what is before it is passed
    passed : first_from (ready s) (64 - place) place ≡ first_from (ready s) (64 - i) i
    passed =
        first_skip (ready s) place i range.0 (omega (arith, range.1))
        (λ k lo hi. not_active s k (first_least (active_leaf s) (64 - place) place k lo hi))

    active : i < 64 → active_leaf s i ≡ true
    active u = first_holds (active_leaf s) (64 - place) place (omega arith)

    go : (b : Bool) → ltb i 64 ≡ b → (c : Bool) → covers s i ≡ c
        → (i < 64 → visits n s (i + 1) ≡ first_from (ready s) (64 - (i + 1)) (i + 1))
        → ◌≡◌ {A = ℕ} (elim b [ true ↦ elim c [ true ↦ i | false ↦ visits n s (i + 1) ] | false ↦ 64 ])
        (first_from (ready s) (64 - place) place)
    go false e c f later = sym (passed ∙ first_end (ready s) i (omega (arith, ltb-false i 64 e, range.1)))
    go true e true f later =
        let u = ltb-true i 64 e in
        sym (passed ∙ first_hit (ready s) i u (by_cover s i (active u) ∙ f))
    go true e false f later =
        let u = ltb-true i 64 e in
        later u ∙ sym (passed ∙ first_pass (ready s) i u (by_cover s i (active u) ∙ f))

-- step 1, told either way
pub visits_next : (s : State) → s.round.place ≤ 64 → visits 64 s s.round.place ≡ next_leaf s
unfolding next_leaf
visits_next s h = visits_from_lem 64 s s.round.place h (omega arith)

-- What is listed is one of the 22 that docs/refusals.md tells of, and no other number; and checks made in order refuse, if at all, with one
-- of them (R4). Demand 1.
use mathlib.Core.Bool.{Bool, true, false}
use mathlib.Core.List.{List, [], ◌∷◌, ◌++◌}
use mathlib.Core.Logic.{◌⊎◌, inl, inr}
use mathlib.Core.Path.{◌≡◌, refl}
use Prim.Native.Nat.{ℕ, zero, suc, ◌≤◌}
use native.Mathlib.Omega.{arith}
use Rattle.std.specs.Prelude.{Err}
use Rattle.checks.specs.declared.Refusal.{Refusal}
use Rattle.checks.specs.declared.Refusal.TheVariants.{Other}
use Rattle.checks.specs.declared.unlisted.Unlisted.{Unlisted}
use Rattle.checks.specs.Check.{number, Check, first_broken, class_by_class, input_checks, Listed, refusal_at}
use Rattle.checks.proofs.Laws.{decides, pass_over, none_broken, with_number, told_by_number}

-- a refusal is listed, or a number that a caller made up, and not both
pub listed_or_other : (r : Refusal) (place : ℕ) → Listed (Err (refusal_at r place)) ⊎ ((u : Unlisted) × (r ≡ Other u))
listed_or_other r place = go (told_by_number r)
  where
    go : ((with_number (number r) ≡ r) × (1 ≤ number r) × (number r ≤ 22)) ⊎ ((u : Unlisted) × (r ≡ Other u)) → Listed (Err (refusal_at r place)) ⊎ ((u : Unlisted) × (r ≡ Other u))
    go (inl a) = inl (a.1, a.2)
    go (inr b) = inr b

pub other_not_listed : (u : Unlisted) (place : ℕ) → Listed (Err (refusal_at (Other u) place)) → ⊥
other_not_listed u place h =
    let beyond = u.beyond h.0 in
    absurd (omega arith)

-- each check of a list has one of them
abbrev pub EachListed : List Check → Type 0
EachListed [] = Unit {0}
EachListed (c ∷ cs) = Listed (Err (refusal_at c.refusal c.place)) × EachListed cs

pub first_listed : (cs : List Check) → EachListed cs → Listed (first_broken cs)
first_listed [] h = rw none_broken tt
first_listed (c ∷ cs) h = go c.broken refl (first_listed cs h.1)
  where
    go : (b : Bool) → c.broken ≡ b → Listed (first_broken cs) → Listed (first_broken (c ∷ cs))
    go true e later = rw (decides c cs e) h.0
    go false e later = rw (pass_over c cs e) later

pub both_listed : (xs ys : List Check) → EachListed xs → EachListed ys → EachListed (xs ++ ys)
both_listed [] ys h k = k
both_listed (c ∷ xs) ys h k = (h.0, both_listed xs ys h.1 k)

pub classes_listed : (f : ℕ → List Check) (n : ℕ) → ((i : ℕ) → EachListed (f i)) → EachListed (class_by_class f n)
unfolding class_by_class
classes_listed f zero h = tt
classes_listed f (suc n) h = both_listed (class_by_class f n) (f (suc n)) (classes_listed f n h) (h (suc n))

pub input_listed : (n : ℕ) → Listed (first_broken (input_checks n))
input_listed n = first_listed (input_checks n) ((omega arith, omega arith), tt)

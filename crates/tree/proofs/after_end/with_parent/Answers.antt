-- `after_end::with_parent` meets its contract.
use mathlib.Core.Bool.{◌||◌, or-true, or-false}
use mathlib.Core.Path.{◌≡◌, refl, sym}
use Prim.Native.Nat.{ℕ}
use native.Mathlib.Decide.{ℕ_discrete}
use native.Mathlib.Omega.{arith}
use lib.Dec.{eqb}
use borrow.Author.Tests.{eq-eqb, ne_eqb}
use Rattle.sets.specs.Set.{has, with}
use Rattle.sets.proofs.Laws.{has_with_same, has_with_other}
use Rattle.tree.proofs.after_end.with_parent.Goals as goal

-- what is in a set with class i put in
has_with : (s i k : ℕ) → has (with s i) k ≡ (has s k || eqb i k)
has_with s i k = go (ℕ_discrete k i)
  where
    go : Dec (k ≡ i) → has (with s i) k ≡ (has s k || eqb i k)
    go (yes e) = rw (e, has_with_same s i, eq-eqb i i refl) (sym (or-true (has s i)))
    go (no e) = rw (has_with_other s i k e, ne_eqb i k (λ z. e (sym z))) (sym (or-false (has s k)))

pub returns-then-p-lt-CLASSES : goal.returns-then-p-lt-CLASSES
returns-then-p-lt-CLASSES c = λ p u. rw (c.with.ensures, c.from-p.ensures) (has_with _ _ p)

pub returns-else-p-lt-CLASSES : goal.returns-else-p-lt-CLASSES
returns-else-p-lt-CLASSES c = λ p u.
    rw (ne_eqb c.args.parent p (λ e. omega (arith, e, u, c.from-p.ensures, c.if-p-lt-CLASSES.false)))
    (sym (or-false (has c.args.parents p)))

-- A number tells its kind of events: no two have the same (R339). Demand 1.
use mathlib.Core.Path.{◌≡◌, refl, sym, ap}
use native.Mathlib.Omega.{arith}
use Rattle.checks.proofs.Laws.{same_by_number}
use Rattle.answers.specs.declared.Kind.{Kind}
use Rattle.answers.specs.declared.Kind.TheVariants.{Last, Arrival, Send, Other}
use Rattle.answers.specs.declared.other_kind.OtherKind.{OtherKind, no_event-type}
use Rattle.answers.specs.Reply.{kind_number}

same_other : {a b : OtherKind} → a.number ≡ b.number → a ≡ b
same_other {a} {b} e =
    same_by_number {P = no_event-type} {T = OtherKind} (λ n h. record { number = n; no_event = h }) (λ n. hlevel) e a.no_event b.no_event

pub one_kind : {a b : Kind} → kind_number a ≡ kind_number b → a ≡ b
one_kind {a} {b} e = go a b e
  where
    go : (a b : Kind) → kind_number a ≡ kind_number b → a ≡ b
    go Last Last e = refl
    go Last Arrival e = absurd (omega arith)
    go Last Send e = absurd (omega arith)
    go Last (Other b) e = absurd (b.no_event.0 (sym e))
    go Arrival Last e = absurd (omega arith)
    go Arrival Arrival e = refl
    go Arrival Send e = absurd (omega arith)
    go Arrival (Other b) e = absurd (b.no_event.1 (sym e))
    go Send Last e = absurd (omega arith)
    go Send Arrival e = absurd (omega arith)
    go Send Send e = refl
    go Send (Other b) e = absurd (b.no_event.2 (sym e))
    go (Other a) Last e = absurd (a.no_event.0 e)
    go (Other a) Arrival e = absurd (a.no_event.1 e)
    go (Other a) Send e = absurd (a.no_event.2 e)
    go (Other a) (Other b) e = ap Other (same_other e)

-- Laws of the event reader's answer, one for each way a record can be.
use mathlib.Core.Bool.{Bool, true, false, cond}
use mathlib.Core.List.{List}
use mathlib.Core.Path.{◌≡◌, refl, ap, ◌∙◌}
use Prim.Native.Nat.{ℕ, ◌≤◌}
use native.Mathlib.Omega.{arith}
use lib.ListN.{length}
use Rattle.plan.specs.declared.event.Event.TheVariants.{Arrive, SendNext}
use Rattle.checks.specs.declared.Refusal.TheVariants.{Cut, UnknownKind}
use Rattle.std.specs.Prelude.{Ok, Err, Some, None}
use Rattle.checks.specs.Check.{first_broken, Verdict, refusal_at}
use Rattle.plan.specs.declared.kind.Section.TheVariants.{Events}
use Rattle.plan.specs.Kind.{gives_arrival}
use Rattle.plan.specs.Record.{kind_at, missing, unknown, cut, body_of}
use Rattle.plan.specs.Event.{arrived_of, event_checks, verdict_of, used_of, event_of, judged, event_at, EventRead}
use Rattle.plan.proofs.Records.{whole_length, arrival_body}

module _ (rest : List ℕ) (place : ℕ) where
  pub event_end : missing rest ≡ true → event_at rest place ≡ Ok None
  unfolding event_at
  event_end e = rw e

  pub event_unknown : missing rest ≡ false → unknown Events rest ≡ true → event_at rest place ≡ Err (refusal_at UnknownKind place)
  unfolding event_at first_broken
  event_unknown e f = rw (e, f)

  pub event_cut : missing rest ≡ false → unknown Events rest ≡ false → cut rest ≡ true → event_at rest place ≡ Err (refusal_at Cut place)
  unfolding event_at first_broken
  event_cut e f g = rw (e, f, g)

  pub event_whole : missing rest ≡ false → unknown Events rest ≡ false → cut rest ≡ false → event_at rest place ≡ event_of rest
  unfolding event_at first_broken
  event_whole e f g = rw (e, f, g)

pub event_arrival : (rest : List ℕ) → gives_arrival (kind_at rest) ≡ true → event_of rest ≡ Ok (Some (Arrive (arrived_of (body_of rest))))
unfolding event_of
event_arrival rest e = rw e

pub event_send : (rest : List ℕ) → gives_arrival (kind_at rest) ≡ false → event_of rest ≡ Ok (Some SendNext)
unfolding event_of
event_send rest e = rw e

-- a record that passed its checks has no number
event_given : (rest : List ℕ) → verdict_of (event_of rest) ≡ Ok tt
unfolding event_of
event_given rest = go (gives_arrival (kind_at rest))
  where
    go : (b : Bool) → verdict_of (cond b (Ok (Some (Arrive (arrived_of (body_of rest))))) (Ok (Some SendNext))) ≡ Ok tt
    go true = refl
    go false = refl

-- the number of an event record: that of the first check broken, in the order 2, 1 (R65); the end of input between events has none (R66)
pub event_number : (rest : List ℕ) (place : ℕ) → missing rest ≡ false
    → verdict_of (event_at rest place) ≡ first_broken (event_checks rest place)
unfolding event_at
event_number rest place e = rw e (go (first_broken (event_checks rest place)))
  where
    go : (v : Verdict) → verdict_of (judged v (event_of rest)) ≡ v
    go (Ok _) = event_given rest
    go (Err _) = refl

pub event_ends : (rest : List ℕ) (place : ℕ) → missing rest ≡ true → verdict_of (event_at rest place) ≡ Ok tt
event_ends rest place e = ap verdict_of (event_end rest place e)

-- an event stands whole in the rest of the input
pub event_fits : (rest : List ℕ) (place : ℕ) → used_of (event_at rest place) ≤ length rest
event_fits rest place = go (missing rest) refl (unknown Events rest) refl (cut rest) refl (gives_arrival (kind_at rest)) refl
  where
    uses : (e : EventRead) → event_at rest place ≡ e → used_of e ≤ length rest → used_of (event_at rest place) ≤ length rest
    uses e same h = rw same h

    go : (a : Bool) → missing rest ≡ a → (b : Bool) → unknown Events rest ≡ b → (d : Bool) → cut rest ≡ d → (f : Bool)
        → gives_arrival (kind_at rest) ≡ f
        → used_of (event_at rest place) ≤ length rest
    go true m b u d k f g = uses (Ok None) (event_end rest place m) (omega arith)
    go false m true u d k f g = uses (Err (refusal_at UnknownKind place)) (event_unknown rest place m u) (omega arith)
    go false m false u true k f g = uses (Err (refusal_at Cut place)) (event_cut rest place m u k) (omega arith)
    go false m false u false k true g =
        uses (Ok (Some (Arrive (arrived_of (body_of rest))))) (event_whole rest place m u k ∙ event_arrival rest g)
        (omega (arith, whole_length rest k, arrival_body rest g))
    go false m false u false k false g =
        uses (Ok (Some SendNext)) (event_whole rest place m u k ∙ event_send rest g) (omega (arith, whole_length rest k))

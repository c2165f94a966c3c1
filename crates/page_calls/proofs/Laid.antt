-- What is laid of a row or of an event reads as that row or that event, whatever follows it; the reader judges its numbers. Demand 1.
use mathlib.Core.Bool.{Bool, true, false, cond}
use mathlib.Core.List.{List, ◌++◌}
use mathlib.Core.Path.{◌≡◌, refl, ap, ap₂, ◌∙◌}
use Prim.Native.Nat.{ℕ, ◌+◌, ◌*◌, ◌/◌, ◌%◌}
use native.Mathlib.Omega.{arith}
use lib.ListN.{length, take}
use borrow.Author.Tests.{ne_eqb, le-ltb}
use Rattle.plan.specs.declared.event.Event.TheVariants.{Arrive}
use Rattle.std.specs.Prelude.{Ok, Some}
use Rattle.checks.specs.Check.{first_broken}
use Rattle.plan.specs.declared.kind.Section.TheVariants.{Events}
use Rattle.plan.specs.Record.{missing, unknown, cut, kind_at, body_of, class_at}
use Rattle.plan.specs.Kind.{record_kind}
use Rattle.plan.specs.Event.{event_of, event_at}
use Rattle.written.specs.Bytes.{record_bytes}
use Rattle.written.proofs.Records.{record_class, written_class}
use Rattle.page_calls.specs.Record.{length_of, record_of}

-- the bytes of a record: as many of the 8 as its kind has
abbrev pub laid : ℕ → ℕ → ℕ → ℕ → List ℕ
laid kind a b c = take (length_of kind) (record_of kind a b c)

-- a class record is the writer's
pub class_laid : (leaf : Bool) (parent weight longest : ℕ)
    → laid (cond leaf 2 1) parent weight longest ≡ record_bytes leaf parent weight longest
unfolding length_of record_of
class_laid true parent weight longest = refl
class_laid false parent weight longest = refl

-- so it gives its class
pub class_reads : (leaf : Bool) (parent weight longest : ℕ) (z : List ℕ)
    → class_at (laid (cond leaf 2 1) parent weight longest ++ z) ≡ record_class leaf parent weight longest
class_reads leaf parent weight longest z =
    ap (λ s. class_at (s ++ z)) (class_laid leaf parent weight longest) ∙ written_class leaf parent weight longest z

-- an arrival gives its class, its length and its tag
module _ (class len tag : ℕ) (z : List ℕ) where
  abbrev rest : List ℕ
  rest = laid 16 class tag len ++ z

  arrival_there : missing rest ≡ false
  unfolding length_of record_of missing
  arrival_there = ne_eqb (length rest) 0 (λ e. omega (arith, e))

  arrival_known : unknown Events rest ≡ false
  unfolding length_of record_of unknown kind_at record_kind
  arrival_known = refl

  arrival_whole : cut rest ≡ false
  unfolding length_of record_of cut kind_at record_kind
  arrival_whole = le-ltb (length rest) 8 (omega arith)

  arrival_given_lem : event_of rest ≡ Ok (Some (Arrive (record { class = class; length = len; tag = tag })))
  unfolding length_of record_of event_of kind_at body_of record_kind
  arrival_given_lem =
      ap₂ (λ (x y : ℕ). Ok (Some (Arrive (record { class = class; length = x; tag = y }))))
      two four
    where
      two : len / 256 * 256 + len % 256 ≡ len
      two = omega arith

      four : tag / 16_777_216 * 16_777_216 + tag / 65_536 % 256 * 65_536 + tag / 256 % 256 * 256 + tag % 256 ≡ tag
      four = omega arith

  pub arrival_reads : (place : ℕ) → event_at rest place ≡ Ok (Some (Arrive (record { class = class; length = len; tag = tag })))
  unfolding event_at first_broken
  arrival_reads place = rw (arrival_there, arrival_known, arrival_whole) arrival_given_lem

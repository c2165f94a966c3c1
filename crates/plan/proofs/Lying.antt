-- An event where it lies in the input: what the event reader says of the rest from its place on. Demand 1.
use mathlib.Core.Bool.{Bool, true, false, not}
use mathlib.Core.List.{List, [], ◌∷◌}
use mathlib.Core.Path.{◌≡◌, refl, sym, ap, ◌∙◌}
use Prim.Native.Nat.{ℕ, ◌+◌, ◌-◌, ◌≤◌, ◌<◌}
use native.Mathlib.Omega.{arith}
use lib.ListN.{length, get_or, take, drop, length-drop}
use lib.Seq.{get_or-drop, get_or-take}
use borrow.Author.Tests.{eq-eqb, ne_eqb, lt-ltb, le-ltb}
use Rattle.plan.specs.declared.event.Event.TheVariants.{Arrive, SendNext}
use Rattle.checks.specs.declared.Refusal.TheVariants.{Cut, UnknownKind}
use Rattle.checks.specs.Check.{refusal_at}
use Rattle.std.specs.Prelude.{Ok, Err, Some, None}
use Rattle.plan.specs.declared.kind.RecordKind.{RecordKind}
use Rattle.plan.specs.declared.kind.Section.TheVariants.{Events}
use Rattle.plan.specs.Kind.{record_kind, stands_in, gives_arrival}
use Rattle.plan.specs.Record.{byte_at, kind_at, missing, unknown, cut, body_of}
use Rattle.plan.specs.Event.{arrived_of, event_at}
use Rattle.plan.specs.Steps.{arrived_at}
use Rattle.plan.proofs.Records.{arrival_body}
use Rattle.plan.proofs.EventLaws.{event_end, event_unknown, event_cut, event_whole, event_arrival, event_send}

-- the body of an arrival has 7 bytes
pub arrival_seven : (k : RecordKind) (byte : ℕ) → k ≡ record_kind byte → gives_arrival k ≡ true → k.body ≡ 7
unfolding kind_at
arrival_seven k byte is arrives = ap (λ (x : RecordKind). x.body) is ∙ arrival_body (byte ∷ []) (ap gives_arrival (sym is) ∙ arrives)

module _ (s : List ℕ) (place : ℕ) where
  abbrev rest : List ℕ
  rest = drop place s

  -- the input has ended
  pub lies_end : length s ≤ place → event_at rest place ≡ Ok None
  unfolding missing
  lies_end past = event_end rest place (eq-eqb (length rest) 0 (omega (arith, length-drop place s, past)))

  module _ (here : place < length s) (k : RecordKind) (is : k ≡ record_kind (get_or s place 0)) where
    there : missing rest ≡ false
    unfolding missing
    there = ne_eqb (length rest) 0 (λ e. omega (arith, length-drop place s, here, e))

    pub lies_kind : kind_at rest ≡ k
    unfolding kind_at
    lies_kind =
        let first : place + 0 ≡ place = omega arith in
        ap record_kind (get_or-drop place s 0 0 ∙ ap (λ (n : ℕ). get_or s n 0) first) ∙ sym is

    stands : (b : Bool) → stands_in Events k ≡ b → unknown Events rest ≡ not b
    unfolding unknown
    stands b e = ap not (ap (stands_in Events) lies_kind ∙ e)

    pub lies_strange : stands_in Events k ≡ false → event_at rest place ≡ Err (refusal_at UnknownKind place)
    lies_strange off = event_unknown rest place there (stands false off)

    module _ (on : stands_in Events k ≡ true) where
      pub lies_cut : length s - place < 1 + k.body → event_at rest place ≡ Err (refusal_at Cut place)
      unfolding cut
      lies_cut short =
          event_cut rest place there (stands true on)
          (lt-ltb (length rest) (1 + (kind_at rest).body) (rw lies_kind (omega (arith, length-drop place s, short))))

      module _ (whole : 1 + k.body ≤ length s - place) where
        all : cut rest ≡ false
        unfolding cut
        all = le-ltb (length rest) (1 + (kind_at rest).body) (rw lies_kind (omega (arith, length-drop place s, whole)))

        pub lies_send : gives_arrival k ≡ false → event_at rest place ≡ Ok (Some SendNext)
        lies_send no-arrival = event_whole rest place there (stands true on) all ∙ event_send rest (ap gives_arrival lies_kind ∙ no-arrival)

        -- an arrival's body begins after its kind byte
        byte : (n : ℕ) → n < 7 → gives_arrival k ≡ true → byte_at (body_of rest) n ≡ byte_at s (place + 1 + n)
        unfolding body_of
        byte n u arrives =
            let seven = arrival_body rest (ap gives_arrival lies_kind ∙ arrives) in
            let at : place + (1 + n) ≡ place + 1 + n = omega arith in
            ap (λ (m : ℕ). byte_at (take m (drop 1 rest)) n) seven
            ∙ get_or-take 7 (drop 1 rest) n 0 u ∙ get_or-drop 1 rest n 0 ∙ get_or-drop place s (1 + n) 0 ∙ ap (byte_at s) at

        pub lies_arrival : gives_arrival k ≡ true → event_at rest place ≡ Ok (Some (Arrive (arrived_at s (place + 1))))
        lies_arrival arrives =
            event_whole rest place there (stands true on) all ∙ event_arrival rest (ap gives_arrival lies_kind ∙ arrives)
            ∙ ap (λ a. Ok (Some (Arrive a))) same
          where
            moved : (n m : ℕ) → n < 7 → place + 1 + n ≡ m → byte_at (body_of rest) n ≡ byte_at s m
            moved n m u e = byte n u arrives ∙ ap (byte_at s) e

            same : arrived_of (body_of rest) ≡ arrived_at s (place + 1)
            same =
                rw (
                  moved 0 (place + 1) (omega arith) (omega arith),
                  moved 1 (place + 1 + 1) (omega arith) (omega arith),
                  moved 2 (place + 1 + 1 + 1) (omega arith) (omega arith),
                  moved 3 (place + 1 + 3) (omega arith) (omega arith),
                  moved 4 (place + 1 + 3 + 1) (omega arith) (omega arith),
                  moved 5 (place + 1 + 3 + 2) (omega arith) (omega arith),
                  moved 6 (place + 1 + 3 + 3) (omega arith) (omega arith),
                )
                refl

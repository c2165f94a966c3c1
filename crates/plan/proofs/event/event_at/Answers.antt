-- `event::event_at` meets its contract.
use mathlib.Core.Path.{sym, ap, ◌∙◌}
use native.Mathlib.Omega.{arith}
use Rattle.plan.specs.declared.event.Event.TheVariants.{Arrive}
use Rattle.std.specs.Prelude.{Ok, Some}
use Rattle.plan.proofs.Lying.{lies_end, lies_strange, lies_cut, lies_send, lies_arrival, arrival_seven}
use Rattle.plan.proofs.event.event_at.Goals as goal

pub returns-then-input-place : goal.returns-then-input-place
returns-then-input-place c = record { value = sym (lies_end _ _ c.if-input-place.true); result_bound = omega (arith, c.ranges.place) }

pub returns-then-not-stands_in : goal.returns-then-not-stands_in
returns-then-not-stands_in c =
    let here = c.if-input-place.false in record { value = sym (lies_strange _ _ here _ c.record_kind-kind.ensures (sym c.stands_in.ensures ∙ c.if-not-stands_in.true)); result_bound = omega (arith, c.ranges.place) }

pub returns-then-input-place-2 : goal.returns-then-input-place-2
returns-then-input-place-2 c =
    let here = c.if-input-place.false in
    let on = sym c.stands_in.ensures ∙ c.if-not-stands_in.false in record { value = sym (lies_cut _ _ here _ c.record_kind-kind.ensures on (omega (arith, c.if-input-place-2.true, c.record_length.ensures))); result_bound = omega (arith, c.ranges.place) }

pub returns-then-not-gives_arrival : goal.returns-then-not-gives_arrival
returns-then-not-gives_arrival c =
    let here = c.if-input-place.false in
    let on = sym c.stands_in.ensures ∙ c.if-not-stands_in.false in record {
      value = sym (lies_send _ _ here _ c.record_kind-kind.ensures on (omega (
        arith,
        c.if-input-place-2.false,
        c.record_length.ensures,
      ))
          (sym c.gives_arrival.ensures ∙ c.if-not-gives_arrival.true));
      result_bound = omega (arith, here);
    }

pub arrival_at-requires : goal.arrival_at-requires
arrival_at-requires c =
    let seven = arrival_seven _ _ c.record_kind-kind.ensures (sym c.gives_arrival.ensures ∙ c.if-not-gives_arrival.false) in
    omega (
      arith,
      c.if-input-place-2.false,
      c.record_length.ensures,
      seven,
      c.if-input-place.false,
    )

pub returns : goal.returns
returns c =
    let here = c.if-input-place.false in
    let on = sym c.stands_in.ensures ∙ c.if-not-stands_in.false in record {
      value = ap (λ a. Ok (Some (Arrive a))) c.arrival_at.ensures
          ∙ sym (lies_arrival _ _ here _ c.record_kind-kind.ensures on
          (omega (arith, c.if-input-place-2.false, c.record_length.ensures))
          (sym c.gives_arrival.ensures ∙ c.if-not-gives_arrival.false));
      result_bound = omega (
        arith,
        here,
        c.if-input-place-2.false,
        c.record_length.ensures,
        arrival_seven _ _ c.record_kind-kind.ensures (sym c.gives_arrival.ensures ∙ c.if-not-gives_arrival.false),
      );
    }

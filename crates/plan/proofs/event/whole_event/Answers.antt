-- `event::whole_event` meets its contract.
use mathlib.Core.Bool.{true}
use mathlib.Core.Path.{◌≡◌, sym, ap, ◌∙◌}
use Prim.Native.Nat.{◌+◌}
use native.Mathlib.Omega.{arith}
use lib.ListN.{length}
use Rattle.plan.specs.declared.event.Event.TheVariants.{Arrive}
use Rattle.std.specs.Prelude.{Ok, Some}
use Rattle.plan.specs.declared.kind.RecordKind.{RecordKind}
use Rattle.plan.specs.Kind.{gives_arrival}
use Rattle.plan.specs.Record.{kind_at}
use Rattle.plan.specs.Event.{arrived_of}
use Rattle.plan.proofs.Records.{body_part, body_length, whole_length, arrival_body}
use Rattle.plan.proofs.EventLaws.{event_arrival, event_send}
use Rattle.plan.proofs.event.whole_event.Goals as goal
use Rattle.plan.proofs.event.whole_event.Goals.{After-record_length-end, Else-not-gives_arrival}

-- the end of the record, as its kind says
end_of : (c : After-record_length-end) → c.record_length-end.result ≡ 1 + (kind_at c.args.rest.now).body
end_of c = c.record_length-end.ensures.0 ∙ ap (λ (k : RecordKind). 1 + k.body) c.requires.1

-- it gives an arrival
arrives : (c : Else-not-gives_arrival) → gives_arrival (kind_at c.args.rest.now) ≡ true
arrives c = ap gives_arrival (sym c.requires.1) ∙ sym c.gives_arrival.ensures ∙ c.if-not-gives_arrival.false

pub returns-then-not-gives_arrival : goal.returns-then-not-gives_arrival
returns-then-not-gives_arrival c = sym (event_send _ (ap gives_arrival (sym c.requires.1) ∙ sym c.gives_arrival.ensures
    ∙ c.if-not-gives_arrival.true))

pub slice_bounds-read_arrival-end : goal.slice_bounds-read_arrival-end
slice_bounds-read_arrival-end c =
    omega (arith, end_of c, whole_length c.args.rest.now c.requires.0)

pub read_arrival-requires : goal.read_arrival-requires
read_arrival-requires c =
    let s = c.args.rest.now in
    ap length (body_part s c.record_length-end.result (end_of (goal.at.read_arrival-requires c).After-record_length-end)) ∙ body_length s c.requires.0 ∙ arrival_body s (arrives (goal.at.read_arrival-requires c).Else-not-gives_arrival)

pub returns : goal.returns
returns c =
    let s = c.args.rest.now in
    ap (λ a. Ok (Some (Arrive a))) (c.read_arrival.ensures ∙ ap arrived_of (body_part s c.record_length-end.result (end_of (goal.at.returns c).After-record_length-end)))
    ∙ sym (event_arrival s (arrives (goal.at.returns c).Else-not-gives_arrival))

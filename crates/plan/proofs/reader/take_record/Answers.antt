-- `reader::take_record` meets its contract.
use mathlib.Core.Path.{ap}
use native.Mathlib.Omega.{arith}
use lib.ListN.{length, length-drop, drop}
use Rattle.plan.proofs.Records.{there_length}
use Rattle.plan.proofs.Reading.{rest_part, record_missing, record_unknown, record_cut, rule_stops, whole_to_step}
use Rattle.plan.proofs.reader.take_record.Goals as goal

pub take_whole-requires : goal.take_whole-requires
take_whole-requires c =
    let s = c.args.input.now in
    let says = c.in-Ok.ensures in
    let whole = rw (rest_part s c.args.place) at says in
    let stops = rule_stops s c.args.place c.requires.1 whole.0 whole.1 whole.2 in (
      says.2,
      says.3,
      omega (arith, ap length (rest_part s c.args.place), length-drop c.args.place s, c.well_formed.0.0),
      rw (rest_part s c.args.place) stops,
    )

pub returns-in-Err-NoKindByte : goal.returns-in-Err-NoKindByte
returns-in-Err-NoKindByte c =
    let s = c.args.input.now in
    let says = rw (c.in-Err-NoKindByte.field-0-is, rest_part s c.args.place) at c.in-Err-NoKindByte.ensures in
    record_missing s c.args.place c.args.tree says

pub returns-in-Err-StrangeKind : goal.returns-in-Err-StrangeKind
returns-in-Err-StrangeKind c =
    let s = c.args.input.now in
    let says = rw (c.in-Err-StrangeKind.field-0-is, rest_part s c.args.place) at c.in-Err-StrangeKind.ensures in
    record_unknown s c.args.place c.args.tree says.0 says.1

pub returns-in-Err-CutBody : goal.returns-in-Err-CutBody
returns-in-Err-CutBody c =
    let s = c.args.input.now in
    let says = rw (c.in-Err-CutBody.field-0-is, rest_part s c.args.place) at c.in-Err-CutBody.ensures in
    record_cut s c.args.place c.args.tree says.0 says.1 says.2

pub returns-in-Ok : goal.returns-in-Ok
returns-in-Ok c =
    let s = c.args.input.now in
    let place = c.args.place in
    let says = rw (rest_part s place) at c.in-Ok.ensures in
    let done = rw (rest_part s place) at c.take_whole.ensures in
    whole_to_step s place c.args.tree c.take_whole.result.tree c.take_whole.result.next c.requires.0
    says.0 says.1 says.2 (there_length (drop place s) says.0) done

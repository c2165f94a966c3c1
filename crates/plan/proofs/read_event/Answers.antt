-- `plan::read_event` meets its contract.
use mathlib.Core.Path.{sym, ◌∙◌}
use Rattle.plan.proofs.EventLaws.{event_end, event_unknown, event_cut, event_whole}
use Rattle.plan.proofs.read_event.Goals as goal

pub whole_event-requires : goal.whole_event-requires
whole_event-requires c =
    let says = c.in-Ok.ensures in
    (says.2, says.3)

pub returns-in-Err-NoKindByte : goal.returns-in-Err-NoKindByte
returns-in-Err-NoKindByte c =
    let says = rw c.in-Err-NoKindByte.field-0-is at c.in-Err-NoKindByte.ensures in
    sym (event_end _ _ says)

pub returns-in-Err-StrangeKind : goal.returns-in-Err-StrangeKind
returns-in-Err-StrangeKind c =
    let says = rw c.in-Err-StrangeKind.field-0-is at c.in-Err-StrangeKind.ensures in
    sym (event_unknown _ _ says.0 says.1)

pub returns-in-Err-CutBody : goal.returns-in-Err-CutBody
returns-in-Err-CutBody c =
    let says = rw c.in-Err-CutBody.field-0-is at c.in-Err-CutBody.ensures in
    sym (event_cut _ _ says.0 says.1 says.2)

pub returns-in-Ok : goal.returns-in-Ok
returns-in-Ok c =
    let says = c.in-Ok.ensures in
    c.whole_event.ensures ∙ sym (event_whole _ _ says.0 says.1 says.2)

-- `plan::read_entry` meets its contract.
use mathlib.Core.Path.{sym, ap, ◌∙◌}
use Rattle.plan.specs.Kind.{gives_claim}
use Rattle.plan.proofs.EntryLaws.{entry_end, entry_unknown, entry_cut, entry_alone, entry_whole}
use Rattle.plan.proofs.read_entry.Goals as goal

pub returns-then-gives_claim : goal.returns-then-gives_claim
returns-then-gives_claim c =
    let says = c.in-Ok.ensures in
    sym (entry_alone _ says.0 says.1 says.2 (ap gives_claim (sym says.3) ∙ sym c.gives_claim.ensures
    ∙ c.if-gives_claim.true))

pub whole_entry-requires : goal.whole_entry-requires
whole_entry-requires c =
    let says = c.in-Ok.ensures in
    (says.0, says.2, says.3)

pub returns-in-Err-NoKindByte : goal.returns-in-Err-NoKindByte
returns-in-Err-NoKindByte c =
    let says = rw c.in-Err-NoKindByte.field-0-is at c.in-Err-NoKindByte.ensures in
    sym (entry_end _ says)

pub returns-in-Err-StrangeKind : goal.returns-in-Err-StrangeKind
returns-in-Err-StrangeKind c =
    let says = rw c.in-Err-StrangeKind.field-0-is at c.in-Err-StrangeKind.ensures in
    sym (entry_unknown _ says.0 says.1)

pub returns-in-Err-CutBody : goal.returns-in-Err-CutBody
returns-in-Err-CutBody c =
    let says = rw c.in-Err-CutBody.field-0-is at c.in-Err-CutBody.ensures in
    sym (entry_cut _ says.0 says.1 says.2)

pub returns-else-gives_claim : goal.returns-else-gives_claim
returns-else-gives_claim c =
    let says = c.in-Ok.ensures in
    c.whole_entry.ensures
    ∙ sym (entry_whole _ says.0 says.1 says.2 (ap gives_claim (sym says.3) ∙ sym c.gives_claim.ensures
    ∙ c.if-gives_claim.false))

-- `reader::read_opening` meets its contract: a first record that breaks a number of its head is no rule that was read.
use Rattle.checks.proofs.Laws.{not_true_and_false}
use Rattle.plan.proofs.Reading.{opening_none}
use Rattle.plan.proofs.reader.read_opening.Goals as goal

pub whole_rule-requires : goal.whole_rule-requires
whole_rule-requires c = c.in-Ok.ensures

pub returns-in-Err-NoKindByte : goal.returns-in-Err-NoKindByte
returns-in-Err-NoKindByte c =
    let says = rw c.in-Err-NoKindByte.field-0-is at c.in-Err-NoKindByte.ensures in
    opening_none _ (λ r. not_true_and_false says r.there)

pub returns-in-Err-StrangeKind : goal.returns-in-Err-StrangeKind
returns-in-Err-StrangeKind c =
    let says = rw c.in-Err-StrangeKind.field-0-is at c.in-Err-StrangeKind.ensures in
    opening_none _ (λ r. not_true_and_false says.1 r.known)

pub returns-in-Err-CutBody : goal.returns-in-Err-CutBody
returns-in-Err-CutBody c =
    let says = rw c.in-Err-CutBody.field-0-is at c.in-Err-CutBody.ensures in
    opening_none _ (λ r. not_true_and_false says.2 r.whole)

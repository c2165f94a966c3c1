-- `reader::read_records` meets its contract: the records are those that the rules give, for any bytes.
use mathlib.Core.Path.{sym, ◌∙◌}
use native.Mathlib.Omega.{arith}
use Rattle.plan.proofs.Reading.{start_no_rule, read_none, read_stop, read_end, read_onward}
use Rattle.plan.proofs.reader.read_records.Goals as goal

pub loop-refused-init : goal.loop-refused-init
loop-refused-init c = rw (c.none-tree.ensures, c.read_opening-opening.ensures.0, c.read_opening-opening.ensures.1) (read_none _)

pub take_record-step-requires : goal.take_record-step-requires
take_record-step-requires c =
    let r = c.loop-refused.invariant in
    (r.within, λ z. start_no_rule _ c.loop-refused.tree.count (sym r.at ∙ z))

pub returns-in-Err : goal.returns-in-Err
returns-in-Err c =
    let says = rw c.in-Err.is at c.take_record-step.ensures in
    c.refuse.ensures ∙ sym (read_stop _ _ _ c.loop-refused.invariant says)

pub overflow_add-used : goal.overflow_add-used
overflow_add-used c =
    let none = rw c.in-Ok-None.is at c.in-Ok-None.field-0-is in
    let says = rw (c.in-Ok-None.is, none) at c.take_record-step.ensures in
    omega (arith, says.2, c.well_formed.0.0)

pub returns-in-Ok-None : goal.returns-in-Ok-None
returns-in-Ok-None c =
    let none = rw c.in-Ok-None.is at c.in-Ok-None.field-0-is in
    let says = rw (c.in-Ok-None.is, none) at c.take_record-step.ensures in
    sym (read_end _ _ _ c.loop-refused.invariant says.0 says.1)

pub loop-refused-smaller : goal.loop-refused-smaller
loop-refused-smaller c =
    let some = rw c.in-Ok-Some.is at c.in-Ok-Some.field-0-is in
    let says = rw (c.in-Ok-Some.is, some) at c.take_record-step.ensures in
    let on = read_onward _ _ _ c.loop-refused.invariant says in
    omega (arith, on.0, c.loop-refused.invariant.most)

pub loop-refused-preserved : goal.loop-refused-preserved
loop-refused-preserved c =
    let some = rw c.in-Ok-Some.is at c.in-Ok-Some.field-0-is in
    let says = rw (c.in-Ok-Some.is, some) at c.take_record-step.ensures in
    (read_onward _ _ _ c.loop-refused.invariant says).1

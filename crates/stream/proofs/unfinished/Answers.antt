-- `stream::unfinished` meets its contract.
use mathlib.Core.Path.{refl, sym, ap, ◌∙◌}
use Rattle.plan.proofs.Told.{reads_none, reads_some}
use Rattle.stream.specs.Window.{waits_for_more, unfinished_at}
use Rattle.stream.proofs.unfinished.Goals as goal

pub returns-in-Ok-None : goal.returns-in-Ok-None
unfolding unfinished_at
returns-in-Ok-None c =
    ap waits_for_more (sym (reads_none c.in-Ok-None.is (rw c.in-Ok-None.is at c.in-Ok-None.field-0-is)) ∙ c.read_event-event.ensures)

pub returns-in-Ok-Some : goal.returns-in-Ok-Some
unfolding unfinished_at
returns-in-Ok-Some c =
    let some = rw c.in-Ok-Some.is at c.in-Ok-Some.field-0-is in
    ap waits_for_more (sym (reads_some c.in-Ok-Some.is some refl) ∙ c.read_event-event.ensures)

pub returns-in-Err : goal.returns-in-Err
unfolding unfinished_at
returns-in-Err c =
    rw (c.number.ensures, c.number-in-Err.ensures) (ap waits_for_more (sym c.in-Err.is ∙ c.read_event-event.ensures))

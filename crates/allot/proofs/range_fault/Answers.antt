-- `allot::range_fault` meets its contract: number 20, then number 21.
use mathlib.Core.Bool.{or-true}
use mathlib.Core.Path.{sym, ◌∙◌}
use lib.Dec.{ltb}
use borrow.Author.Tests.{lt-ltb, le-ltb}
use Rattle.checks.proofs.Laws.{decides, pass_over}
use Rattle.allot.specs.Answer.{bad_capacity}
use Rattle.allot.proofs.range_fault.Goals as goal

pub returns-then-capacity-lt1 : goal.returns-then-capacity-lt1
unfolding bad_capacity
returns-then-capacity-lt1 c = sym (decides _ _ (rw (lt-ltb _ 1 c.if-capacity-lt1.true)))

pub returns-then-capacity-gt1000000000 : goal.returns-then-capacity-gt1000000000
unfolding bad_capacity
returns-then-capacity-gt1000000000 c = sym (decides _ _ (rw (lt-ltb 1_000_000_000 _ c.if-capacity-gt1000000000.true) (or-true (ltb c.args.capacity 1))))

pub returns : goal.returns
unfolding bad_capacity
returns c =
    sym (pass_over _ _ (rw (le-ltb _ 1 c.if-capacity-lt1.false, le-ltb 1_000_000_000 _ c.if-capacity-gt1000000000.false)) ∙ sym c.request_fault.ensures)

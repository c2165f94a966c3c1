-- `run::begin` meets its contract.
use mathlib.Core.Bool.{false}
use mathlib.Core.Path.{ap, ◌∙◌}
use Rattle.checks.specs.Check.{number}
use Rattle.std.specs.Prelude.{Ok, Err}
use Rattle.state.specs.declared.Link.{Link}
use Rattle.lines.specs.declared.Line.TheVariants.{Stop}
use Rattle.plan.proofs.Numbers.{plan_rules}
use Rattle.run.proofs.Events.{begin_by}
use Rattle.run.proofs.begin.Goals as goal

pub linked-requires : goal.linked-requires
linked-requires c =
    plan_rules _ c.read_plan-read.result c.read_plan-read.ensures c.in-Ok.is

pub returns-in-Ok : goal.returns-in-Ok
returns-in-Ok c =
    c.linked.ensures ∙ begin_by _ c.read_plan-read.result (Ok tt) c.read_plan-read.ensures c.in-Ok.is

pub returns-in-Err : goal.returns-in-Err
returns-in-Err c =
    c.last.ensures
    ∙ ap (λ (l : Link). record { line = Stop (number c.in-Err.refused.0) c.in-Err.refused.1; more = false; link = l; place = 0 })
    c.none.ensures
    ∙ begin_by _ c.read_plan-read.result (Err c.in-Err.refused) c.read_plan-read.ensures
    c.in-Err.is

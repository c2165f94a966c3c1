-- `claims::begin` meets its contract.
use mathlib.Core.Path.{ap, ◌∙◌}
use Rattle.checks.specs.Check.{refusal_at}
use Rattle.std.specs.Prelude.{Ok, Err}
use Rattle.plan.proofs.Numbers.{plan_rules}
use Rattle.state.specs.declared.Link.{Link}
use Rattle.claims.specs.declared.Judged.TheVariants.{Stop}
use Rattle.claims.specs.Recording.{decides}
use Rattle.claims.proofs.Whole.{begun_by_lem}
use Rattle.claims.proofs.begin.Goals as goal

pub after_plan-requires : goal.after_plan-requires
after_plan-requires c =
    plan_rules _ c.read_plan-read.result c.read_plan-read.ensures c.in-Ok.is

pub returns-in-Ok : goal.returns-in-Ok
returns-in-Ok c =
    c.after_plan.ensures ∙ begun_by_lem _ c.read_plan-read.result (Ok tt) c.read_plan-read.ensures c.in-Ok.is

pub returns-in-Err : goal.returns-in-Err
returns-in-Err c =
    c.decides.ensures
    ∙ ap (λ (l : Link). decides (Stop c.in-Err.refused) l 0 0) c.none.ensures
    ∙ begun_by_lem _ c.read_plan-read.result (Err c.in-Err.refused) c.read_plan-read.ensures c.in-Err.is

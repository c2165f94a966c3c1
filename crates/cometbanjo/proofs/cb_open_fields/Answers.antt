-- `cb_open_fields` meets its contract: the fields of the fresh link, each in its array.
use mathlib.Core.Path.{ap, ◌∙◌}
use Rattle.checks.specs.Check.{number_of}
use Rattle.plan.specs.declared.PlanRead.{PlanRead}
use Rattle.page_calls.specs.Kept.{said_of}
use Rattle.cometbanjo.proofs.Calling.{fresh_wide, link_laid}
use Rattle.cometbanjo.proofs.cb_open_fields.Goals as goal

pub returns : goal.returns
returns c =
    let fresh = c.fresh-made in
    let read = c.read_plan-read.ensures in
    record {
      made = fresh.result;
      rules = rw read at fresh.ensures;
      link =
          link_laid fresh.result.link _ c.shape_of.ensures c.four_of.ensures c.balances.ensures
          c.residuals.ensures (fresh_wide fresh.ensures);
      answers = c.number_of.ensures ∙ ap (λ (p : PlanRead). number_of p.verdict) read;
      verdict = c.said_of.ensures ∙ ap (λ (p : PlanRead). said_of p.verdict p.used) read;
    }

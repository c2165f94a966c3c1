-- `run::first` meets its contract: 10 before all else.
use mathlib.Core.Bool.{false}
use mathlib.Core.Path.{ap, ◌∙◌}
use Rattle.checks.specs.Check.{number}
use Rattle.std.specs.Prelude.{Ok, Err}
use Rattle.state.specs.declared.Link.{Link}
use Rattle.lines.specs.declared.Line.TheVariants.{Stop}
use Rattle.run.proofs.Events.{first_by}
use Rattle.run.proofs.first.Goals as goal

pub returns-in-Ok : goal.returns-in-Ok
returns-in-Ok c =
    c.begin.ensures ∙ first_by _ c.input_length-verdict.result (Ok tt) c.input_length-verdict.ensures
    c.in-Ok.is

pub returns-in-Err : goal.returns-in-Err
returns-in-Err c =
    c.last.ensures
    ∙ ap (λ (l : Link). record { line = Stop (number c.in-Err.refused.0) c.in-Err.refused.1; more = false; link = l; place = 0 })
    c.none.ensures
    ∙ first_by _ c.input_length-verdict.result (Err c.in-Err.refused)
    c.input_length-verdict.ensures c.in-Err.is

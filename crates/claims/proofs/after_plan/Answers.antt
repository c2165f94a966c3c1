-- `claims::after_plan` meets its contract.
use mathlib.Core.Bool.{Bool}
use mathlib.Core.Path.{ap, ◌∙◌}
use Rattle.calls.specs.declared.AfterFresh.{AfterFresh}
use Rattle.calls.specs.Fresh.{fresh_of}
use Rattle.claims.specs.Recording.{goes_on}
use Rattle.claims.proofs.after_plan.Goals as goal

pub returns : goal.returns
returns c =
    let r = c.args.read in
    c.goes_on.ensures
    ∙ ap (λ (a : AfterFresh). goes_on a.link r.used 0)
    (c.fresh-fresh.ensures.answer ∙ ap (λ (b : Bool). fresh_of b r.tree) (c.fresh-fresh.ensures.exactly.complete c.requires))

-- `run::linked` meets its contract.
use mathlib.Core.Bool.{Bool, true}
use mathlib.Core.Path.{ap, ◌∙◌}
use Rattle.calls.specs.declared.AfterFresh.{AfterFresh}
use Rattle.calls.specs.Fresh.{fresh_of}
use Rattle.lines.specs.declared.Line.TheVariants.{Link}
use Rattle.run.proofs.linked.Goals as goal

pub returns : goal.returns
returns c =
    let t = c.args.read.tree in
    let made = c.fresh-made.ensures in
    ap (λ (r : AfterFresh).
    record { line = Link t.count r.link.round.size.0; more = true; link = r.link; place = c.args.read.used })
    (made.answer ∙ ap (λ (b : Bool). fresh_of b t) (made.exactly.complete c.requires))

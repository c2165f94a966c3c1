-- `fresh` meets its contract.
use mathlib.Core.Path.{ap}
use lib.ListN.{replicate}
use Rattle.calls.specs.declared.AfterFresh.{AfterFresh}
use Rattle.published.specs.declared.SecondFresh.{SecondFresh}
use Rattle.published_link.proofs.fresh.Goals as goal

second : AfterFresh → SecondFresh
second a = record { verdict = a.verdict; link = record { link = a.link; asked = 0; quotas = replicate 64 0 } }

pub returns : goal.returns
unfolding second
returns c =
    let f = c.fresh-made.ensures in
    record { obeys = f.obeys; exactly = f.exactly; answer = ap second f.answer }

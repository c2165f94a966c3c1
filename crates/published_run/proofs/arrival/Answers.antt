-- `arrival` meets its contract.
use mathlib.Core.Bool.{true}
use mathlib.Core.Path.{ap}
use Rattle.lines.specs.declared.Line.{Line}
use Rattle.published_run.proofs.arrival.Goals as goal

pub returns : goal.returns
returns c =
    record {
      answer = c.arrive-answered.result.answer;
      after = c.arrive-answered.result.link;
      meets = c.arrive-answered.ensures;
      step =
          ap (λ (line : Line). record { line = line; more = true; link = c.arrive-answered.result.link; place = c.args.place })
          c.arrival_line.ensures;
    }

-- `send` meets its contract.
use mathlib.Core.Bool.{true}
use mathlib.Core.Path.{ap}
use Rattle.lines.specs.declared.Line.{Line}
use Rattle.published_run.proofs.send.Goals as goal

pub returns : goal.returns
returns c =
    record {
      answer = c.send-sent.result.answer;
      after = c.send-sent.result.link;
      meets = c.send-sent.ensures;
      step =
          ap (λ (line : Line). record { line = line; more = true; link = c.send-sent.result.link; place = c.args.place })
          c.send_line.ensures;
    }

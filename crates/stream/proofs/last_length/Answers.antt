-- `stream::last_length` meets its contract.
use mathlib.Core.List.{List}
use mathlib.Core.Path.{ap, ◌∙◌}
use Prim.Native.Nat.{ℕ}
use lib.ListN.{length}
use Rattle.plan.specs.Event.{event_at}
use Rattle.lines.specs.declared.Line.{Line}
use Rattle.lines.specs.Line.{bytes_of}
use Rattle.run.specs.Event.{last_line}
use Rattle.stream.proofs.last_length.Goals as goal

pub returns : goal.returns
returns c =
    let a = c.args in
    c.lay.ensures.lays.0
    ∙ ap (λ (x : Line). length (bytes_of x))
    (c.last_line.ensures ∙ ap (λ (s : List ℕ). last_line (event_at s a.place) a.link) c.events_after-rest.ensures.result_value)

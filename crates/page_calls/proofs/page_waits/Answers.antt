-- `page_calls::page_waits` meets its contract.
use mathlib.Core.Path.{refl, ◌∙◌}
use Rattle.page_calls.proofs.page_waits.Goals as goal

pub returns : goal.returns
returns c =
    record {
      answer = c.leaf_waits-waits.result;
      rules = rw c.read_plan-read.ensures at c.leaf_waits-waits.ensures;
      answers = c.from.ensures ∙ c.number.ensures;
      promised = refl;
    }

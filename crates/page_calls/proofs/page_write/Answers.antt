-- `page_calls::page_write` meets its contract.
use mathlib.Core.Path.{◌∙◌}
use Rattle.page_calls.proofs.page_write.Goals as goal

pub returns : goal.returns
returns c =
    record {
      answer = c.write_plan-written.result;
      rules = rw c.tree_of-tree.ensures at c.write_plan-written.ensures.writes;
      answers = c.from.ensures ∙ c.number.ensures;
      verdict = c.said_of.ensures;
    }

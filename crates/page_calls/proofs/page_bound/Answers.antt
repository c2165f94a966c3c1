-- `page_calls::page_bound` meets its contract.
use mathlib.Core.Path.{refl}
use Rattle.page_calls.proofs.page_bound.Goals as goal

pub returns : goal.returns
returns c =
    record {
      answer = c.longest_wait-promised.result;
      rules = rw c.read_plan-read.ensures at c.longest_wait-promised.ensures;
      promised = refl;
    }

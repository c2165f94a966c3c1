-- `page_calls::page_why` meets its contract.
use Rattle.page_calls.proofs.page_why.Goals as goal

pub returns : goal.returns
returns c =
    record {
      line = c.line-line.result;
      tells = rw c.last_step-end.ensures at c.line-line.ensures;
      lays = c.lay.ensures.lays;
    }

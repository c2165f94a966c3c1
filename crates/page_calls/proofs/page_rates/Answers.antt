-- `page_calls::page_rates` meets its contract.
use mathlib.Core.Path.{refl, ◌∙◌}
use Rattle.page_calls.proofs.page_rates.Goals as goal

pub returns : goal.returns
returns c =
    record {
      answer = c.rates_of-answer.result;
      rules = c.rates_of-answer.ensures;
      answers = c.from.ensures ∙ c.number.ensures;
      verdict = c.said_of.ensures;
      all_requests = refl;
      all_gets = refl;
      all_left = refl;
    }

-- `page_calls::page_open` meets its contract.
use mathlib.Core.List.{[], ◌∷◌}
use mathlib.Core.Path.{refl, ap, ◌∙◌}
use Rattle.units.specs.declared.Bytes.{Bytes}
use Rattle.page_calls.proofs.page_open.Goals as goal

pub returns : goal.returns
returns c =
    let e = c.read_plan-read.ensures in
    record {
      judged = c.plan_size.result;
      sizes = rw e at c.plan_size.ensures;
      answers = c.from.ensures ∙ c.number.ensures ∙ rw e refl;
      verdict = c.said_of.ensures ∙ rw e refl;
      tree = c.numbers_of.ensures ∙ rw e refl;
      whole = ap (λ (b : Bytes). b.0 ∷ []) c.unwrap_or-q.ensures;
      parents = rw e refl;
      weights = c.weight_numbers.ensures ∙ rw e refl;
      longests = rw e refl;
    }

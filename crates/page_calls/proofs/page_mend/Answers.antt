-- `page_calls::page_mend` meets its contract.
use mathlib.Core.Path.{refl, ◌∙◌}
use Rattle.page_calls.proofs.page_mend.Goals as goal

pub returns : goal.returns
returns c =
    let e = c.mend-mended.ensures in
    record {
      answers = c.from.ensures ∙ c.number.ensures ∙ rw e refl;
      verdict = c.said_of.ensures ∙ rw e refl;
      counted = rw e refl;
      classes = c.classes_of.ensures ∙ rw e refl;
      olds = c.olds_of.ensures ∙ rw e refl;
      news = c.news_of.ensures ∙ rw e refl;
    }

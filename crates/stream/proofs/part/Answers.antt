-- `stream::part` meets its contract: a part, and where it ends its run the last line is left out.
use native.Mathlib.Omega.{arith}
use Rattle.lines.proofs.Laying.{counts}
use Rattle.stream.proofs.Ends.{last_laid, unended_more, unended_last}
use Rattle.stream.proofs.part.Goals as goal

pub returns-then-part : goal.returns-then-part
returns-then-part c =
    let e = c.part-part.ensures in record { in_window = record { part = c.part-part.result; parts = e.parts; answer = unended_more _ c.part-part.result c.if-part.true }; prefix_len = e.prefix_len }

pub overflow_sub-result : goal.overflow_sub-result
overflow_sub-result c =
    omega (arith, c.last_length-last.ensures, last_laid _ _ _ _ _ _ c.part-part.ensures.parts c.if-part.false)

pub returns : goal.returns
returns c =
    let e = c.part-part.ensures in record {
      in_window = record {
        part = c.part-part.result;
        parts = e.parts;
        answer =
            unended_last _ c.part-part.result c.if-part.false c.last_length-last.result c.last_length-last.ensures;
      };
      prefix_len = counts _ _ (omega (arith, e.prefix_len));
    }

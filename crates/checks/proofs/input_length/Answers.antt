-- `checks::input_length` meets its contract: 10 exactly where the input exceeds 65,536 bytes.
use mathlib.Core.List.{[]}
use mathlib.Core.Path.{sym, ◌∙◌}
use native.Mathlib.Omega.{arith}
use borrow.Author.Tests.{lt-ltb, le-ltb}
use Rattle.checks.proofs.Laws.{decides, pass_over, none_broken}
use Rattle.checks.proofs.input_length.Goals as goal

pub returns-then-n-gt-MOST_INPUT : goal.returns-then-n-gt-MOST_INPUT
returns-then-n-gt-MOST_INPUT c = sym (decides _ [] (lt-ltb 65_536 c.args.n (omega arith)))

pub returns : goal.returns
returns c = sym (pass_over _ [] (le-ltb 65_536 c.args.n (omega arith)) ∙ none_broken)

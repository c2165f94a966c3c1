-- `words::read_number` meets its contract: what was read and the bytes that are left come to what the whole word comes to.
use mathlib.Core.Path.{◌≡◌, sym, ap, ◌∙◌}
use Prim.Native.Nat.{ℕ, suc, ◌<◌}
use native.Mathlib.Omega.{arith}
use lib.ListN.{length, drop}
use lib.Seq.{drop-cons, drop-length}
use Rattle.std.proofs.Common.{rules, tests}
use Rattle.std.specs.Prelude.{Option, Some}
use Rattle.words.specs.Step.{all_more}
use Rattle.words.proofs.Reading.{read_all, read_empty, stays_none}
use Rattle.words.proofs.read_number.Goals as goal

pub returns-then-is_empty : goal.returns-then-is_empty
returns-then-is_empty c = sym (read_empty c.args.text.now (search (rules, tests)))

pub returns-in_err-number : goal.returns-in_err-number
returns-in_err-number c =
    let text = c.args.text.now in
    let i = c.loop-byte.byte-index in
    let some : 0 < length text = search (rules, tests) in
    let rest = drop-cons text i 0 (omega arith) in
    c.from_residual.ensures
    ∙ sym (stays_none (drop (suc i) text))
    ∙ ap (λ (n : Option ℕ). all_more n (drop (suc i) text)) c.in_err-number.ensures
    ∙ sym (ap (all_more (Some c.loop-byte.number)) rest)
    ∙ c.loop-byte.invariant
    ∙ read_all text some

pub returns : goal.returns
returns c =
    let text = c.args.text.now in
    let number = c.loop-byte.number in
    let all : c.loop-byte.byte-index ≡ length text = omega arith in
    let some : 0 < length text = search (rules, tests) in
    sym (ap (λ (k : ℕ). all_more (Some number) (drop k text)) all ∙ ap (all_more (Some number)) (drop-length text))
    ∙ c.loop-byte.invariant
    ∙ read_all text some

-- `words::read_pair` meets its contract.
use mathlib.Core.Path.{sym, ap, ap₂, ◌∙◌}
use native.Mathlib.Omega.{arith}
use lib.ListN.{drop}
use lib.Seq.{drop-drop}
use Rattle.words.specs.Word.{word_number, asks}
use Rattle.words.proofs.Pairs.{pair_none, pair_around}
use Rattle.words.proofs.read_pair.Goals as goal

pub returns-in_err-request : goal.returns-in_err-request
returns-in_err-request c =
    let text = c.args.text.now in
    c.from_residual.ensures ∙ pair_none text c.place_of.result c.place_of.ensures.place
    (omega (arith, c.place_of.ensures.within, c.split_at.ensures.back_len, c.in_err-request.ensures.cases))

pub returns : goal.returns
returns c =
    let text = c.args.text.now in
    let at = c.place_of.result in
    let rest = ap (drop 1) (sym c.in_ok-request.ensures.cases.0 ∙ c.split_at.ensures.back) ∙ drop-drop 1 at text in
    c.both.ensures
    ∙ ap₂ asks (c.read_number-class.ensures ∙ ap word_number c.split_at.ensures.front) (c.read_number-request.ensures ∙ ap word_number rest)
    ∙ pair_around text at c.place_of.ensures.place
